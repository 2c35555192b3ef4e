use Rattle.std.proofs.Common.{◌≡◌, ◌≤◌}
use Rattle.pg_worlds.specs.Moves.{place_of, word_of}
use Rattle.pg_worlds.specs.declared.tactic_name.TacticName.{TacticName}
use Rattle.pg_worlds.proofs.tactic_name.TacticName.named.Given as goal

-- the move with this word isn't one of those that were passed
abbrev pub invariant-loop-t : goal.invariant-loop-t
invariant-loop-t l = (t : TacticName) → word_of t ≡ l.text → l.t-index ≤ place_of t
