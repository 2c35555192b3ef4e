-- Frames nest an operand at most as often as there are frames.
use Rattle.std.proofs.Common.{ℕ, ◌+◌, ◌≤◌, List, [], ◌∷◌, length, map, arith}
use Rattle.std.proofs.lemmas.List.{length-reverse, length-map}
use Rattle.pg_grammar.specs.Shapes.{Op, Implies, Or, And, Equal, NotEqual, LessEqual, Less, Plus, Times, Power}
use Rattle.pg_grammar.specs.Nesting.{right_depth}
use Rattle.pg_grammar.specs.Machine.{Frame, InParen, InNext, InArg, InNeg, InQuant, InBinary, nesting}
use Rattle.pg_shape.specs.Frames as rust
use Rattle.pg_shape.specs.declared.frame.Frame.{Frame as RustFrame}

right-at-most : (op : Op) (d : ℕ) → right_depth op d ≤ d + 1
right-at-most Implies d = omega arith
right-at-most Or d = omega arith
right-at-most And d = omega arith
right-at-most Equal d = omega arith
right-at-most NotEqual d = omega arith
right-at-most LessEqual d = omega arith
right-at-most Less d = omega arith
right-at-most Plus d = omega arith
right-at-most Times d = omega arith
right-at-most Power d = omega arith

pub nesting-at-most : (fs : List Frame) → nesting fs ≤ length fs
nesting-at-most [] = omega arith
nesting-at-most (InParen at ∷ fs) = omega (arith, nesting-at-most fs)
nesting-at-most (InNext at ∷ fs) = omega (arith, nesting-at-most fs)
nesting-at-most (InArg f ∷ fs) = omega (arith, nesting-at-most fs)
nesting-at-most (InNeg at ∷ fs) = omega (arith, nesting-at-most fs)
nesting-at-most (InQuant at q b ∷ fs) = omega (arith, nesting-at-most fs)
nesting-at-most (InBinary at op l ∷ fs) = omega (arith, nesting-at-most fs, right-at-most op (nesting fs))

pub nesting_fits : (fs : List RustFrame) → nesting (rust.frames fs) ≤ length fs
nesting_fits fs = omega (arith, nesting-at-most (rust.frames fs), length-reverse (map rust.frame fs), length-map fs rust.frame)
