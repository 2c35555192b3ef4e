use Rattle.std.proofs.Common.{◌≡◌, drop}
use Rattle.pg_kernel.specs.View.{proof}
use Rattle.pg_terms.specs.View.{terms, formula}
use Rattle.pg_rewrites.specs.Taking.{taken_at}
use Rattle.pg_rewrites.proofs.taking.taken_at.Given as goal

abbrev pub invariant-loop-t : goal.invariant-loop-t
invariant-loop-t l = taken_at (terms (drop l.t-index l.by)) (formula l.given.formula) (proof l.given.proof) ≡ taken_at (terms l.by) (formula l.initial.given.formula) (proof l.initial.given.proof)
