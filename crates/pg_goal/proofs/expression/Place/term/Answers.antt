use Rattle.std.proofs.Common.{◌≤◌, sym, subst}
use Rattle.pg_logic.specs.Tree.{nodes}
use Rattle.pg_terms.specs.View as trees
use Rattle.pg_goal.proofs.Small.{term_small}
use Rattle.pg_goal.proofs.expression.Place.term.Goals as goal

pub returns-in_ok-new-in-Ok-clause-few : goal.returns-in_ok-new-in-Ok-clause-few
returns-in_ok-new-in-Ok-clause-few c =
    subst (λ t. nodes (trees.term t) ≤ 8192) (sym c.in_ok-new-in-Ok.ensures) (term_small _ _ (trees.term c.in-Ok.t) c.in-Ok.ensures.right)
