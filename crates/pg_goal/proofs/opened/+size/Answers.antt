use Rattle.std.proofs.Common.{◌∙◌}
use Rattle.pg_goal.proofs.Sizes.{all_nodes_turn}
use Rattle.pg_goal.proofs.opened.+size.Goals as goal

pub all_size-loop-t-preserved : goal.all_size-loop-t-preserved
all_size-loop-t-preserved t c =
    λ s d e f. c.saturating_add-sum.ensures ∙ all_nodes_turn s d _ _ _ _ _ c.loop-t-test.true c.t-item.is (c.loop-t.invariant s d e f) (c.term_size.ensures s d e f)
