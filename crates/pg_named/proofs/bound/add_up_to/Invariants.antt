use Rattle.std.proofs.Common.{◌≡◌, ◌++◌, drop}
use Rattle.pg_script.specs.View.{words}
use Rattle.pg_named.specs.Bound.{up_to}
use Rattle.pg_named.proofs.bound.add_up_to.Given as goal

abbrev pub invariant-loop-token : goal.invariant-loop-token
invariant-loop-token l =
    words l.kept.items ++ up_to l.last (words (drop l.token-index l.tokens)) ≡ words l.initial.kept.items ++ up_to l.last (words l.tokens)
