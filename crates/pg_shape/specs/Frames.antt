-- What a value of the Rust type stands for, and a stack of them: a Rust list has the innermost frame last.
use Rattle.std.specs.Prelude.{Bool, true, false, List, [], ◌∷◌, map, reverse}
use Rattle.pg_grammar.specs.Machine as machine
use Rattle.pg_shape.specs.View.{op, quantifier, binders, shape}
use Rattle.pg_shape.specs.declared.frame.Frame.{Frame}
use Rattle.pg_shape.specs.declared.frame.Frame.TheVariants.{Paren, Next, Arg, Neg, Quant, Binary}

abbrev pub frame : Frame → machine.Frame
frame (Paren at) = machine.InParen at
frame (Next at) = machine.InNext at
frame (Arg f) = machine.InArg (shape f)
frame (Neg at) = machine.InNeg at
frame (Quant at q b) = machine.InQuant at (quantifier q) (binders b)
frame (Binary at o l) = machine.InBinary at (op o) (shape l)

abbrev pub frames : List Frame → List machine.Frame
frames fs = reverse (map frame fs)

-- its operand is an atom, which leaves it at once
abbrev pub wants_atom : machine.Frame → Bool
wants_atom (machine.InNext at) = true
wants_atom (machine.InArg f) = true
wants_atom _ = false

abbrev pub want_atom : List machine.Frame → Bool
want_atom [] = false
want_atom (f ∷ fs) = wants_atom f
