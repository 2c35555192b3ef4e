use Rattle.pg_acts.proofs.Unfolds.{opening-more}
use Rattle.pg_acts.proofs.unfolding.opening.Goals as goal

pub loop-preserved : goal.loop-preserved
loop-preserved c = opening-more c.loop.frames c.push.new.self c.loop.counter c.loop.invariant c.in_ok-push.ensures.ok
