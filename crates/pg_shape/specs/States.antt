-- What the reader's values stand for.
use Rattle.std.specs.Prelude.{List}
use Rattle.pg_grammar.specs.Machine as machine
use Rattle.pg_shape.specs.View.{quantifier, shape}
use Rattle.pg_shape.specs.Headings.{heading}
use Rattle.pg_shape.specs.Frames.{frames}
use Rattle.pg_shape.specs.declared.stack.Stack.{Stack}
use Rattle.pg_shape.specs.declared.state.State.{State}
use Rattle.pg_shape.specs.declared.state.State.TheVariants.{Wants, Has, Binds}
use Rattle.pg_shape.specs.declared.state.Operand.{Operand}

abbrev pub stack : Stack → List machine.Frame
stack s = frames s.frames

abbrev pub state : State → machine.State
state (Wants s) = machine.Wants (stack s)
state (Has s x) = machine.Has (stack s) (shape x)
state (Binds s at q h) = machine.Binds (stack s) at (quantifier q) (heading h)

abbrev pub operand : Operand → machine.Operand
operand o = record { frames = stack o.stack; shape = shape o.shape }
