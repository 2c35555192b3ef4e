use Rattle.pg_named.proofs.Room.{more_front}
use Rattle.pg_named.proofs.binders.front_of.Goals as goal

pub loop-binder-preserved : goal.loop-binder-preserved
loop-binder-preserved c =
    more_front c.args.last c.args.binders.now c.loop-binder.binder-index _ _ _ _ c.loop-binder-test.true c.loop-binder.invariant c.in_ok-add_front.ensures
