use Rattle.std.proofs.Common.{◌≡◌, ◌<◌, ℕ, true}
use Rattle.pg_worlds.specs.Flags.{flag}
use Rattle.pg_worlds.proofs.graph.Graph.first_left.Given as goal

-- every world that was passed is placed
abbrev pub invariant-loop-left : goal.invariant-loop-left
invariant-loop-left l = (v : ℕ) → v < l.left → flag l.placed v ≡ true
