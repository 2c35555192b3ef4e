-- What the reading of tokens answers.
use Rattle.std.specs.Prelude.{ℕ, ◌≡◌, ◌⊎◌, List, map, Option, Some, None, Result, Ok, Err}
use Rattle.pg_base.specs.Tokens.{Word}
use Rattle.pg_logic.specs.Tree.{Tm, Fm}
use Rattle.pg_grammar.specs.Shapes.{Shape}
use Rattle.pg_grammar.specs.Faults as shapes
use Rattle.pg_meaning.specs.Scope.{Scope}
use Rattle.pg_meaning.specs.Faults as meaning
use Rattle.pg_meaning.specs.Meaning.{term_of, formula_of}
use Rattle.pg_meaning.specs.Spelling.{SpellsTerm, SpellsFormula, HasFirstFault}
use Rattle.pg_terms.specs.declared.term.Term.{Term}
use Rattle.pg_terms.specs.declared.formula.Formula.{Formula}
use Rattle.pg_terms.specs.View.{term, formula}
use Rattle.pg_shape.specs.declared.fault.ShapeFault.{ShapeFault}
use Rattle.pg_shape.specs.declared.fault.ShapeFault.TheVariants as at_shape
use Rattle.pg_shape.specs.Symbols.{symbol}
use Rattle.pg_shape.specs.Answers.{limits, Answer as ShapeAnswer, Shaped, Broken, shape_answer, IsFaultAt}
use Rattle.pg_syntax.specs.declared.fault.SyntaxFault.{SyntaxFault}
use Rattle.pg_syntax.specs.declared.fault.SyntaxFault.TheVariants.{Expected, Unknown, Arity, Deep, Long, OutOfMemory}

-- ---- the answer

-- a tree; the first fault of the shape with its place; or that of the meaning
pub data Answer (X : Type 0) : Type 0 where
  Read : X → Answer X
  Misshapen : shapes.Fault → ℕ → Answer X
  Meaningless : meaning.Fault → Answer X

abbrev pub faultless : {X : Type 0} → Option meaning.Fault → X → Answer X
faultless None x = Read x
faultless (Some fault) x = Meaningless fault

-- what the shape means, where its meaning has no fault; the fault of the shape comes first
abbrev pub meant : {X : Type 0} → Scope → meaning.Sort → (Shape → X) → ShapeAnswer → Answer X
meant c want of (Shaped s) = faultless (meaning.first_fault c want s) (of s)
meant c want of (Broken fault at) = Misshapen fault at

abbrev pub term_answer : Scope → (end : ℕ) → List Word → Answer Tm
term_answer c end words = meant c meaning.TermSort (term_of c) (shape_answer end words)

abbrev pub formula_answer : Scope → (end : ℕ) → List Word → Answer Fm
formula_answer c end words = meant c meaning.FormulaSort (formula_of c) (shape_answer end words)

-- `Expected` is a fault of the shape or of the meaning
abbrev pub IsExpected : {X : Type 0} → Answer X → ℕ → Type 0
IsExpected (Misshapen shapes.Expected p) at = p ≡ at
IsExpected (Meaningless (meaning.Expected p)) at = p ≡ at
IsExpected _ at = ⊥

abbrev pub Gives : {X Y : Type 0} → (X → Y) → Answer Y → Result X SyntaxFault → Type 0
Gives view want (Ok x) = want ≡ Read (view x)
Gives view want (Err (Expected at what)) = IsExpected want at
Gives view want (Err (Unknown at)) = want ≡ Meaningless (meaning.Unknown at)
Gives view want (Err (Arity at has needs)) = want ≡ Meaningless (meaning.Arity at has needs)
Gives view want (Err (Deep at)) = want ≡ Misshapen shapes.Deep at
Gives view want (Err (Long at)) = want ≡ Misshapen shapes.Long at
Gives view want (Err OutOfMemory) = Unit {0}

-- ---- without the reader

-- the tokens are one shape within the limits, and it means this term
pub record IsTerm (c : Scope) (words : List Word) (t : Tm) : Type 0 where
  pub spells : SpellsTerm c (map symbol words) t
  pub good : shapes.IsGood limits (map symbol words)

pub record IsFormula (c : Scope) (words : List Word) (a : Fm) : Type 0 where
  pub spells : SpellsFormula c (map symbol words) a
  pub good : shapes.IsGood limits (map symbol words)

-- the tokens are one shape within the limits, and this is the first fault of its meaning
pub record IsMeaningFault (c : Scope) (want : meaning.Sort) (words : List Word) (fault : meaning.Fault) : Type 0 where
  pub has : HasFirstFault c want (map symbol words) fault
  pub good : shapes.IsGood limits (map symbol words)

abbrev pub IsRightFault : Scope → meaning.Sort → (end : ℕ) → List Word → SyntaxFault → Type 0
IsRightFault c want end words (Expected at what) = IsFaultAt end words shapes.Expected at ⊎ IsMeaningFault c want words (meaning.Expected at)
IsRightFault c want end words (Unknown at) = IsMeaningFault c want words (meaning.Unknown at)
IsRightFault c want end words (Arity at has needs) = IsMeaningFault c want words (meaning.Arity at has needs)
IsRightFault c want end words (Deep at) = IsFaultAt end words shapes.Deep at
IsRightFault c want end words (Long at) = IsFaultAt end words shapes.Long at
IsRightFault c want end words OutOfMemory = Unit {0}

abbrev pub IsRightTerm : Scope → (end : ℕ) → List Word → Result Term SyntaxFault → Type 0
IsRightTerm c end words (Ok t) = IsTerm c words (term t)
IsRightTerm c end words (Err fault) = IsRightFault c meaning.TermSort end words fault

abbrev pub IsRightFormula : Scope → (end : ℕ) → List Word → Result Formula SyntaxFault → Type 0
IsRightFormula c end words (Ok a) = IsFormula c words (formula a)
IsRightFormula c end words (Err fault) = IsRightFault c meaning.FormulaSort end words fault

-- ---- the fault of a shape

abbrev pub IsMisshapen : ShapeFault → SyntaxFault → Type 0
IsMisshapen (at_shape.Expected at what) fault = fault ≡ Expected at what
IsMisshapen (at_shape.Deep at) fault = fault ≡ Deep at
IsMisshapen (at_shape.Long at) fault = fault ≡ Long at
IsMisshapen at_shape.OutOfMemory fault = fault ≡ OutOfMemory
