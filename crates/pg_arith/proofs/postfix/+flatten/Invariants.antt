use Rattle.std.proofs.Common.{◌≡◌, ◌++◌, drop}
use Rattle.pg_terms.specs.View.{args}
use Rattle.pg_arith.specs.Postfix.{postfix_all}
use Rattle.pg_arith.proofs.postfix.+flatten.Given as goal

abbrev pub invariant-flatten_all-loop-t : goal.invariant-flatten_all-loop-t
invariant-flatten_all-loop-t l = l.steps ++ postfix_all (args (drop l.t-index l.ts)) ≡ l.initial.steps ++ postfix_all (args l.ts)
