use Rattle.std.proofs.Common.{◌≡◌, drop}
use Rattle.pg_script.specs.View.{words}
use Rattle.pg_gametext.specs.Checks.{opens_at}
use Rattle.pg_hints.proofs.tokens.opens_at.Given as goal

abbrev pub invariant-loop-token : goal.invariant-loop-token
invariant-loop-token l = opens_at l.at (words (drop l.token-index l.tokens)) ≡ opens_at l.at (words l.tokens)
