use Rattle.std.proofs.Common.{arith}
use Rattle.pg_shape.proofs.Nested.{nesting_fits}
use Rattle.pg_shape.proofs.stack.Stack.pushed.Goals as goal

pub overflow_add-result : goal.overflow_add-result
overflow_add-result c = omega (arith, nesting_fits c.args.self.frames, c.args.self.counted, c.fits.ensures, c.nests-more.ensures.small)
