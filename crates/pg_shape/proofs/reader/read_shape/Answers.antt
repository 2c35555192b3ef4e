use Rattle.pg_shape.specs.States.{state}
use Rattle.pg_shape.proofs.Answering.{fault_index, end_index}
use Rattle.pg_shape.proofs.reader.read_shape.Goals as goal

pub returns-in-Err : goal.returns-in-Err
returns-in-Err c =
    fault_index c.args.end c.args.tokens.now c.loop-token.token-index c.loop-token.room _ (state c.loop-token.state) c.in-Err.fault c.loop-token-test.true c.loop-token.invariant c.in-Err.ensures

pub returns : goal.returns
returns c =
    end_index c.args.end c.args.tokens.now c.loop-token.token-index c.loop-token.room (state c.loop-token.state) c.finished.result c.loop-token-test.false c.loop-token.invariant c.finished.ensures
