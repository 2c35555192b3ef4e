use Rattle.std.proofs.Common.{List, ap, map}
use Rattle.pg_syntax.specs.declared.statement.Binder.{Binder as StatedBinder}
use Rattle.pg_gametext.specs.Reading.{binder}
use Rattle.pg_states.proofs.Counted.{nodes_turn}
use Rattle.pg_states.proofs.Drafting.{dropped_as}
use Rattle.pg_states.proofs.sizes.nodes_in.Goals as goal

pub loop-binder-preserved : goal.loop-binder-preserved
loop-binder-preserved c n =
    nodes_turn n c.loop-binder.sum _ _ _ _ _ _ (ap (λ (bs : List StatedBinder). map binder bs) (dropped_as c.args.binders.now c.loop-binder.binder-index c.binder-item.result c.loop-binder-test.true c.binder-item.is)) c.nodes_of.ensures c.saturating_add-sum.ensures (c.loop-binder.invariant n)
