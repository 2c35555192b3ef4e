use Rattle.pg_runs.proofs.Introducing.{pushes}
use Rattle.pg_runs.proofs.moving.introduced.Goals as goal

pub loop-binder-preserved : goal.loop-binder-preserved
loop-binder-preserved c =
    pushes c.args.binders.now c.loop-binder.binder-index c.binder-item.result c.loop-binder.frames c.push.new.self c.introducing.result
    c.loop-binder-test.true c.binder-item.is c.loop-binder.invariant c.in_ok-push.ensures.ok c.introducing.ensures
