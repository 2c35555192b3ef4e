use Rattle.pg_goal.specs.View.{lookup_of}
use Rattle.pg_plays.proofs.Usable.{can}
use Rattle.pg_plays.proofs.premises.can_attempt.Goals as goal

pub returns : goal.returns
returns c = λ e.
    can (lookup_of c.args.lookup.now) c.args.statement.now c.as_slice-binders.result.now c.total.result c.as_slice-binders.ensures.value c.total.ensures
    (c.is_usable.ensures c.if-not-is_usable.false) (c.are_fitting.ensures e) c.if-binders-gt-MOST.false c.if-total-gt-MOST_NODES.false
