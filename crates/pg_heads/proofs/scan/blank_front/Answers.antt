use Rattle.pg_heads.proofs.Lines.{blank-end}
use Rattle.pg_heads.proofs.scan.blank_front.Goals as goal

pub returns-clause-value : goal.returns-clause-value
returns-clause-value c = blank-end c.args.bytes.now c.loop-at.at c.loop-at-test.false c.loop-at.invariant.so_far
