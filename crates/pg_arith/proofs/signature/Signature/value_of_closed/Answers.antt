use Rattle.std.proofs.Common.{◌≡◌, [], subst}
use Rattle.std.specs.Prelude.{IfOk}
use Rattle.pg_logic.specs.Value.{value, functions_of}
use Rattle.pg_terms.specs.View.{term}
use Rattle.pg_arith.specs.View.{plain_functions}
use Rattle.pg_arith.proofs.Runs.{got-value}
use Rattle.pg_arith.proofs.signature.Signature.value_of_closed.Goals as goal

pub returns-clause-truth : goal.returns-clause-truth
returns-clause-truth c =
    subst (λ fs. IfOk c.value_of.result (λ v. v ≡ value (functions_of (plain_functions fs)) [] [] (term c.args.t.now))) c.functions.ensures
    (got-value (plain_functions c.functions.result.now) c.args.limit (term c.args.t.now) c.args.budget c.value_of.result _ c.value_of.ensures.exact)
