use Rattle.pg_rewrites.proofs.Depths.{all-turn}
use Rattle.pg_rewrites.proofs.abstracting.+marked.Goals as goal

pub marked_all-loop-t-preserved : goal.marked_all-loop-t-preserved
marked_all-loop-t-preserved t c = all-turn _ _ _ _ _ _ _ _ c.loop-t-test.true c.t-item.is c.in_ok-push.ensures.ok c.loop-t.invariant c.in_ok-marked.ensures
