-- Which symbols are a shape within the limits, and what the first fault of others is. No reader is named here.
use Rattle.std.specs.Prelude.{ℕ, ◌≡◌, ◌≤◌, List, [], ◌∷◌, ◌++◌, length, take}
use Rattle.pg_grammar.specs.Shapes.{Sym, Shape, IsShape, spelled}
use Rattle.pg_grammar.specs.Nesting.{depths, AreWithin}

-- how deep a symbol may be nested, and how many symbols there may be
pub record Limits : Type 0 where
  pub nesting : ℕ
  pub tokens : ℕ

-- these symbols are this shape
abbrev pub IsShapeOf : Shape → List Sym → Type 0
IsShapeOf s syms = IsShape s × (spelled s ≡ syms)

-- some shape begins so
pub record Begins (front : List Sym) : Type 0 where
  pub shape : Shape
  pub more : List Sym
  pub whole : IsShapeOf shape (front ++ more)

-- some shape begins so, and these symbols are nested at most so deep in it
abbrev pub BeginsWithin : ℕ → List Sym → Type 0
BeginsWithin limit front = (b : Begins front) × AreWithin limit (take (length front) (depths 0 b.shape))

pub data Fault : Type 0 where
  Expected : Fault
  Deep : Fault
  Long : Fault

-- The fault stands behind this front, at the first symbol of the rest or at the end. Expected: no shape begins with
-- that symbol too, and at the end the front is no shape. Deep: some shape does, and each nests it too deep. Long: some
-- shape does and doesn't nest it too deep, and it is one symbol too many.
abbrev pub IsFault : Limits → Fault → (front rest : List Sym) → Type 0
IsFault limits Expected front [] = (s : Shape) → IsShapeOf s front → ⊥
IsFault limits Expected front (next ∷ later) = Begins (front ++ next ∷ []) → ⊥
IsFault limits Deep front [] = ⊥
IsFault limits Deep front (next ∷ later) = Begins (front ++ next ∷ []) × (BeginsWithin limits.nesting (front ++ next ∷ []) → ⊥)
IsFault limits Long front [] = ⊥
IsFault limits Long front (next ∷ later) = BeginsWithin limits.nesting (front ++ next ∷ []) × (length front ≡ limits.tokens)

-- The symbols before the rest begin a shape within the limits.
pub record IsGood (limits : Limits) (front : List Sym) : Type 0 where
  pub begins : BeginsWithin limits.nesting front
  pub few : length front ≤ limits.tokens

-- The first fault stands where the rest begins: what stands before has none.
pub record IsFirstFault (limits : Limits) (syms : List Sym) (fault : Fault) (rest : List Sym) : Type 0 where
  pub front : List Sym
  pub split : syms ≡ front ++ rest
  pub good : IsGood limits front
  pub broken : IsFault limits fault front rest

-- ---- all symbols

pub data Reading : Type 0 where
  Read : Shape → Reading
  Refused : Fault → List Sym → Reading

-- The symbols are this shape within the limits, or have this first fault.
abbrev pub IsReading : Limits → List Sym → Reading → Type 0
IsReading limits syms (Read s) = IsShapeOf s syms × IsGood limits syms
IsReading limits syms (Refused fault rest) = IsFirstFault limits syms fault rest

-- ---- a shape at the front of a longer text

pub data Part : Type 0 where
  Found : Shape → List Sym → Part
  Lost : Fault → List Sym → Part

-- no shape begins with the front and the next symbol
abbrev pub IsBarred : (front rest : List Sym) → Type 0
IsBarred front [] = Unit {0}
IsBarred front (next ∷ later) = Begins (front ++ next ∷ []) → ⊥

-- the shape goes as far as a shape can
pub record IsFound (limits : Limits) (syms : List Sym) (s : Shape) (rest : List Sym) : Type 0 where
  pub split : syms ≡ spelled s ++ rest
  pub shape : IsShape s
  pub good : IsGood limits (spelled s)
  pub barred : IsBarred (spelled s) rest

-- the first fault, and what stands before it is no shape where none goes on with the next symbol
pub record IsLost (limits : Limits) (syms : List Sym) (fault : Fault) (rest : List Sym) : Type 0 where
  pub first : IsFirstFault limits syms fault rest
  pub unfinished : fault ≡ Expected → (s : Shape) → IsShapeOf s first.front → ⊥

abbrev pub IsPart : Limits → List Sym → Part → Type 0
IsPart limits syms (Found s rest) = IsFound limits syms s rest
IsPart limits syms (Lost fault rest) = IsLost limits syms fault rest
