use Rattle.std.proofs.Common.{◌≡◌, option_map, length}
use Rattle.pg_grammar.specs.Machine as machine
use Rattle.pg_shape.specs.View.{op, shape}
use Rattle.pg_shape.specs.States.{stack}
use Rattle.pg_shape.proofs.state.reduced.Given as goal

abbrev pub invariant-loop-outer : goal.invariant-loop-outer
invariant-loop-outer l = machine.reduced (option_map op l.sign) (stack l.frames) (shape l.shape) ≡ machine.reduced (option_map op l.fn.sign) (stack l.fn.stack) (shape l.fn.inner)

abbrev pub decreases-loop-outer : goal.decreases-loop-outer
decreases-loop-outer l = length (stack l.frames)
