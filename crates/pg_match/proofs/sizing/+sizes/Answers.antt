use Rattle.std.proofs.Common.{◌∙◌}
use Rattle.pg_match.proofs.Counted.{nodes-turn, height-turn}
use Rattle.pg_match.proofs.sizing.+sizes.Goals as goal

pub all_size-loop-t-preserved : goal.all_size-loop-t-preserved
all_size-loop-t-preserved t c = record {
  nodes = λ d us e s. c.beside-size.ensures.nodes ∙ nodes-turn d us _ _ _ _ _ c.loop-t-test.true c.t-item.is (c.loop-t.invariant.nodes d us e s) (c.term_size.ensures.nodes d us e s);
  height = λ d us e s. c.beside-size.ensures.height ∙ height-turn d us _ _ _ _ _ c.loop-t-test.true c.t-item.is (c.loop-t.invariant.height d us e s) (c.term_size.ensures.height d us e s);
}
