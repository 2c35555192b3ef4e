use Rattle.std.proofs.Common.{ap, ◌∙◌, arith}
use Rattle.pg_terms.specs.View.{terms, formula}
use Rattle.pg_logic.specs.Tree.{substituted_formula}
use Rattle.pg_kernel.proofs.Unfolds.{unfolded_missing, unfolded_found}
use Rattle.pg_acts.proofs.unfolding.body.Goals as goal

pub returns-then-p-predicate_count : goal.returns-then-p-predicate_count
returns-then-p-predicate_count c =
    unfolded_missing c.args.sig.now _ _ _ c.in-Pred.is (omega (arith, c.if-p-predicate_count.true, c.predicate_count.ensures))

pub returns-in_ok-new-in-Pred : goal.returns-in_ok-new-in-Pred
returns-in_ok-new-in-Pred c =
    unfolded_found c.args.sig.now _ _ c.in-Pred.ts (formula c.predicate_body-body.result.now) _ c.in-Pred.is c.predicate_body-body.ensures
    (ap formula c.in_ok-new-in-Pred.ensures ∙ c.in_ok-at_terms-in-Pred.ensures ∙ ap (λ ts. substituted_formula (terms ts) (formula c.predicate_body-body.result.now)) c.as_slice.ensures)
