-- Shapes of terms and formulas by a table of strengths, and how they are spelled.
use Rattle.std.specs.Prelude.{ℕ, ◌≤◌, ◌≡◌, Bool, true, false, List, [], ◌∷◌, ◌++◌}

-- ---- symbols

-- the signs that stand between two operands
pub data Op : Type 0 where
  Implies : Op
  Or : Op
  And : Op
  Equal : Op
  NotEqual : Op
  LessEqual : Op
  Less : Op
  Plus : Op
  Times : Op
  Power : Op

-- the signs ∀ and ∃
pub data Quantifier : Type 0 where
  ForAll : Quantifier
  Exists : Quantifier

-- the text of a name or a number, and the byte at which it stands
pub record Word : Type 0 where
  pub at : ℕ
  pub text : List ℕ

-- What a token is to the grammar. A number beside a word or a sign is the byte at which it stands.
pub data Sym : Type 0 where
  Name : Word → Sym
  Number : Word → Sym
  FalseWord : ℕ → Sym
  SuccWord : ℕ → Sym
  Sign : ℕ → Op → Sym
  NotSign : ℕ → Sym
  QuantSign : ℕ → Quantifier → Sym
  Open : ℕ → Sym
  Close : Sym
  Comma : Sym
  Colon : Sym
  NatSign : Sym
  Other : Sym

-- ---- strengths

-- how strong a sign is, and how strong its left and its right operand are at least
abbrev pub table : Op → ℕ × ℕ × ℕ
table Implies = (25, 26, 25)
table Or = (30, 31, 30)
table And = (35, 36, 35)
table Equal = (50, 51, 51)
table NotEqual = (50, 51, 51)
table LessEqual = (50, 51, 51)
table Less = (50, 51, 51)
table Plus = (65, 65, 66)
table Times = (70, 70, 71)
table Power = (75, 76, 75)

abbrev pub level : Op → ℕ
level op = (table op).0

abbrev pub left_min : Op → ℕ
left_min op = (table op).1

abbrev pub right_min : Op → ℕ
right_min op = (table op).2

-- ---- the names of a quantifier

-- one name or more
pub record Group : Type 0 where
  pub first : Word
  pub others : List Word

-- a group in parentheses, and the byte at which it opens
pub record Bracket : Type 0 where
  pub at : ℕ
  pub names : Group

-- x y, or x y : ℕ, or (x y : ℕ) (z : ℕ), one or more, the last apart
pub data Binders : Type 0 where
  Plain : Group → Binders
  Typed : Group → Binders
  Grouped : List Bracket → Bracket → Binders

abbrev pub names : List Word → List Sym
names [] = []
names (x ∷ xs) = Name x ∷ names xs

abbrev pub plain : Group → List Sym
plain g = Name g.first ∷ names g.others

abbrev pub typed : Group → List Sym
typed g = plain g ++ Colon ∷ NatSign ∷ []

abbrev pub bracketed : Bracket → List Sym
bracketed b = Open b.at ∷ (typed b.names ++ Close ∷ [])

abbrev pub all_bracketed : List Bracket → List Sym
all_bracketed [] = []
all_bracketed (b ∷ bs) = bracketed b ++ all_bracketed bs

abbrev pub binders : Binders → List Sym
binders (Plain g) = plain g
binders (Typed g) = typed g
binders (Grouped bs b) = all_bracketed bs ++ bracketed b

-- ---- shapes

-- Named, Numeral, Falsum and Paren are atoms; Next and App are applications.
pub data Shape : Type 0 where
  Named : Word → Shape
  Numeral : Word → Shape
  Falsum : ℕ → Shape
  Paren : ℕ → Shape → Shape
  Next : ℕ → Shape → Shape
  App : Shape → Shape → Shape
  Neg : ℕ → Shape → Shape
  Quant : ℕ → Quantifier → Binders → Shape → Shape
  Binary : ℕ → Op → Shape → Shape → Shape

abbrev pub spelled : Shape → List Sym
spelled (Named x) = Name x ∷ []
spelled (Numeral n) = Number n ∷ []
spelled (Falsum at) = FalseWord at ∷ []
spelled (Paren at s) = Open at ∷ (spelled s ++ Close ∷ [])
spelled (Next at s) = SuccWord at ∷ spelled s
spelled (App f s) = spelled f ++ spelled s
spelled (Neg at s) = NotSign at ∷ spelled s
spelled (Quant at q b s) = QuantSign at q ∷ (binders b ++ Comma ∷ spelled s)
spelled (Binary at op l r) = spelled l ++ Sign at op ∷ spelled r

-- An application is stronger than all signs, an atom stronger still. A quantifier may stand where an application may.
abbrev pub strength : Shape → ℕ
strength (Named x) = 101
strength (Numeral n) = 101
strength (Falsum at) = 101
strength (Paren at s) = 101
strength (Next at s) = 100
strength (App f s) = 100
strength (Neg at s) = 40
strength (Quant at q b s) = 100
strength (Binary at op l r) = level op

-- an atom may follow
abbrev pub can_apply : Shape → Bool
can_apply (Named x) = true
can_apply (Next at s) = true
can_apply (App f s) = true
can_apply _ = false

-- the shape doesn't end in a quantifier outside parentheses
abbrev pub closed : Shape → Bool
closed (Neg at s) = closed s
closed (Quant at q b s) = false
closed (Binary at op l r) = closed r
closed _ = true

-- Each operand is as strong as the table wants, arguments are atoms, and no left operand ends in a quantifier.
abbrev pub IsShape : Shape → Type 0
IsShape (Named x) = Unit {0}
IsShape (Numeral n) = Unit {0}
IsShape (Falsum at) = Unit {0}
IsShape (Paren at s) = IsShape s
IsShape (Next at s) = (101 ≤ strength s) × IsShape s
IsShape (App f s) = (can_apply f ≡ true) × (101 ≤ strength s) × IsShape f × IsShape s
IsShape (Neg at s) = (40 ≤ strength s) × IsShape s
IsShape (Quant at q b s) = IsShape s
IsShape (Binary at op l r) = (left_min op ≤ strength l) × (right_min op ≤ strength r) × IsShape l × IsShape r × (closed l ≡ true)
