use Rattle.std.proofs.Common.{◌∙◌}
use Rattle.pg_match.proofs.Exchanged.{nodes_turn}
use Rattle.pg_match.proofs.replacing.+sizes.Goals as goal

pub all_size-loop-t-preserved : goal.all_size-loop-t-preserved
all_size-loop-t-preserved t c =
    λ n e. c.saturating_add-sum.ensures ∙ nodes_turn _ n _ _ _ _ _ c.loop-t-test.true c.t-item.is (c.loop-t.invariant n e) (c.term_size.ensures n e)
