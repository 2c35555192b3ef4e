use Rattle.std.proofs.Common.{arith}
use Rattle.pg_shape.proofs.Nested.{nesting_fits}
use Rattle.pg_shape.proofs.stack.Stack.nesting.Goals as goal

pub returns-clause-small : goal.returns-clause-small
returns-clause-small c = omega (arith, nesting_fits c.args.self.now.frames, c.args.self.now.counted, c.fits.ensures)
