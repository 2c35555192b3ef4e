use Rattle.std.proofs.Common.{ap, sym, ◌∙◌}
use Rattle.pg_logic.specs.Tree.{pred}
use Rattle.pg_terms.specs.View.{formula as formula_in}
use Rattle.pg_shape.specs.View.{shape as shape_in}
use Rattle.pg_syntax.specs.View.{scope as scope_in}
use Rattle.pg_syntax.proofs.Calls.{predicate_call}
use Rattle.pg_syntax.proofs.Views.{formula-Pred}
use Rattle.pg_syntax.proofs.Wholes.{none-of}
use Rattle.pg_syntax.proofs.formula.predicate.Goals as goal

pub returns : goal.returns
returns c =
    let own = c.in_ok-id.ensures in
    let parts = c.in_ok-ts.ensures in (
      none-of _ _ own.0 parts.0,
      ap formula_in c.in_ok-new.ensures ∙ formula-Pred c.in_ok-id.id c.in_ok-ts.ts ∙ ap (pred c.in_ok-id.id) parts.1
          ∙ sym (predicate_call (scope_in c.args.scope.now) (shape_in c.args.shape.now) c.in_ok-id.id own.1),
    )
