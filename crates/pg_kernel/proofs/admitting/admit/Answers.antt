use Rattle.pg_terms.specs.View.{formulas}
use Rattle.pg_arith.specs.View.{signature}
use Rattle.pg_kernel.proofs.Admitted.{true_by_named}
use Rattle.pg_kernel.proofs.admitting.admit.Goals as goal

pub returns-in-Some-clause-sound : goal.returns-in-Some-clause-sound
returns-in-Some-clause-sound c =
    true_by_named (signature c.args.sig.now) (formulas c.args.theorems.now) c.in_ok-names.field-0 c.in-Some.names c.get.result.now c.in_ok-goal.goal
    c.get-2.result.now c.in_ok-goal.proof c.in_ok-names.ensures.sound c.in-Some.is c.get.ensures c.get-2.ensures
