-- The laws of shapes, their nesting, their faults, their reader and the printed shape.
use Rattle.std.specs.Prelude.{◌≡◌, ◌≤◌, ◌↔◌, List, ◌++◌, length, take}
use Rattle.pg_grammar.specs.Shapes.{Sym, Shape, IsShape, spelled}
use Rattle.pg_grammar.specs.Nesting.{depths, AreWithin}
use Rattle.pg_grammar.specs.Faults.{Limits, IsShapeOf, Reading, Read, IsReading, Part, IsPart}
use Rattle.pg_grammar.specs.Machine.{read, read_part}
use Rattle.pg_grammar.specs.Printing.{Tree, meaning, shape_of}

-- symbols are one shape at most
abbrev pub ShapeLaw : Type 0
ShapeLaw = (s t : Shape) → IsShape s → IsShape t → spelled s ≡ spelled t → s ≡ t

-- How deep a symbol is nested is settled by what stands up to it.
abbrev pub NestingLaw : Type 0
NestingLaw =
    (front more other : List Sym) (s t : Shape) → IsShapeOf s (front ++ more) → IsShapeOf t (front ++ other) → take (length front) (depths 0 s) ≡ take (length front) (depths 0 t)

-- the reader gives the shape within the limits, or the first fault, and there is one such
abbrev pub ReadingLaw : Type 0
ReadingLaw = (limits : Limits) (syms : List Sym) (r : Reading) → (read limits syms ≡ r) ↔ IsReading limits syms r

-- at the front of a longer text
abbrev pub PartLaw : Type 0
PartLaw = (limits : Limits) (syms : List Sym) (p : Part) → (read_part limits syms ≡ p) ↔ IsPart limits syms p

-- what is spelled within the limits is read
abbrev pub SpelledLaw : Type 0
SpelledLaw = (limits : Limits) (s : Shape) → IsShape s → AreWithin limits.nesting (depths 0 s) → length (spelled s) ≤ limits.tokens → read limits (spelled s) ≡ Read s

-- what is printed of a tree is a shape that means the tree
pub record Prints (t : Tree) (s : Shape) : Type 0 where
  pub shape : IsShape s
  pub means : meaning s ≡ t

abbrev pub PrintingLaw : Type 0
PrintingLaw = (t : Tree) → Prints t (shape_of t)
