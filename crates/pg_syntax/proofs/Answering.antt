-- What is read is right, and fits.
use Rattle.std.proofs.Common.{◌≡◌, inl, inr, ℕ, true, List, length, map, Option, Some, None, Result, Ok, Err, IfOk, refl, ap, ◌∙◌, subst}
use Rattle.pg_base.specs.Tokens.{Word as Lexeme}
use Rattle.pg_logic.specs.Tree.{Tm, Fm}
use Rattle.pg_logic.specs.Signature.{fits, fits_term}
use Rattle.pg_logic.specs.Declarations.{signature_of}
use Rattle.pg_grammar.specs.Shapes.{binders, Shape, spelled}
use Rattle.pg_grammar.specs.Faults as shapes
use Rattle.pg_grammar.specs.Machine.{read}
use Rattle.pg_grammar.proofs.Reader.{reading-good}
use Rattle.pg_meaning.specs.Scope.{Scope}
use Rattle.pg_meaning.specs.Faults as meaning
use Rattle.pg_meaning.specs.Meaning.{term_of, formula_of}
use Rattle.pg_meaning.specs.Live.{is_live, is_live_formula}
use Rattle.pg_meaning.proofs.Fitting.{term-fit, formula-fit}
use Rattle.pg_meaning.proofs.Living.{term-live, formula-live}
use Rattle.pg_terms.specs.declared.term.Term.{Term}
use Rattle.pg_terms.specs.declared.formula.Formula.{Formula}
use Rattle.pg_terms.specs.View.{term, formula}
use Rattle.pg_shape.specs.Symbols.{symbol}
use Rattle.pg_shape.specs.Answers.{limits, Answer as ShapeAnswer, Shaped, Broken, answer, shape_answer}
use Rattle.pg_shape.specs.declared.fault.ShapeFault.TheVariants as at_shape
use Rattle.pg_shape.proofs.Answering.{right as shape-right}
use Rattle.pg_syntax.specs.Answers.{Read, Misshapen, faultless, meant, term_answer, formula_answer, Gives, IsMeaningFault, IsRightFault, IsRightTerm, IsRightFormula}
use Rattle.pg_syntax.specs.declared.fault.SyntaxFault.{SyntaxFault}
use Rattle.pg_syntax.specs.declared.fault.SyntaxFault.TheVariants.{Expected, Unknown, Arity, Deep, Long, OutOfMemory}

-- ---- right

read-of : (end : ℕ) (words : List Lexeme) (r : shapes.Reading) (s : Shape) → answer end words r ≡ Shaped s → r ≡ shapes.Read s
read-of end words (shapes.Read t) s e = cc
read-of end words (shapes.Refused fault rest) s e = cc

was-read : (end : ℕ) (words : List Lexeme) (s : Shape) → shape_answer end words ≡ Shaped s → shapes.IsReading limits (map symbol words) (shapes.Read s)
was-read end words s e =
    subst (shapes.IsReading limits (map symbol words)) (read-of end words (read limits (map symbol words)) s e) (reading-good limits (map symbol words))

right-meaning : (c : Scope) (want : meaning.Sort) (words : List Lexeme) (s : Shape) (f g : meaning.Fault) → shapes.IsReading limits (map symbol words) (shapes.Read s) → meaning.first_fault c want s ≡ Some f → f ≡ g → IsMeaningFault c want words g
right-meaning c want words s f g h e same = record { has = record { shape = s; spelled = h.0; first = e ∙ ap Some same }; good = h.1 }

module _ {X Y : Type 0} (view : X → Y) (c : Scope) (want : meaning.Sort) (of : Shape → Y) (end : ℕ) (words : List Lexeme) where
  -- the fault of the meaning
  of-meaning : (s : Shape) (o : Option meaning.Fault) (y : Y) → shapes.IsReading limits (map symbol words) (shapes.Read s) → meaning.first_fault c want s ≡ o
      → (e : SyntaxFault) → Gives {X = X} {Y = Y} view (faultless o y) (Err e) → IsRightFault c want end words e
  of-meaning s (Some (meaning.Expected p)) y h is (Expected at what) g = inr (right-meaning c want words s (meaning.Expected p) (meaning.Expected at) h is (ap meaning.Expected g))
  of-meaning s (Some (meaning.Unknown p)) y h is (Expected at what) g = absurd g
  of-meaning s (Some (meaning.Arity p n m)) y h is (Expected at what) g = absurd g
  of-meaning s None y h is (Expected at what) g = absurd g
  of-meaning s (Some f) y h is (Unknown at) g = right-meaning c want words s f (meaning.Unknown at) h is cc
  of-meaning s None y h is (Unknown at) g = absurd cc
  of-meaning s (Some f) y h is (Arity at has needs) g = right-meaning c want words s f (meaning.Arity at has needs) h is cc
  of-meaning s None y h is (Arity at has needs) g = absurd cc
  of-meaning s (Some f) y h is (Deep at) g = absurd cc
  of-meaning s None y h is (Deep at) g = absurd cc
  of-meaning s (Some f) y h is (Long at) g = absurd cc
  of-meaning s None y h is (Long at) g = absurd cc
  of-meaning s o y h is OutOfMemory g = tt

  -- the fault of the shape
  of-shape : (fault : shapes.Fault) (p : ℕ) → shape_answer end words ≡ Broken fault p → (e : SyntaxFault) → Gives {X = X} {Y = Y} view (Misshapen fault p) (Err e) → IsRightFault c want end words e
  of-shape shapes.Expected p is (Expected at what) g = inl (shape-right end words (Err (at_shape.Expected at what)) (is ∙ ap (Broken shapes.Expected) g))
  of-shape shapes.Deep p is (Expected at what) g = absurd g
  of-shape shapes.Long p is (Expected at what) g = absurd g
  of-shape f p is (Unknown at) g = absurd cc
  of-shape f p is (Arity at has needs) g = absurd cc
  of-shape f p is (Deep at) g =
      let same : Broken f p ≡ Broken shapes.Deep at = cc in
      shape-right end words (Err (at_shape.Deep at)) (is ∙ same)
  of-shape f p is (Long at) g =
      let same : Broken f p ≡ Broken shapes.Long at = cc in
      shape-right end words (Err (at_shape.Long at)) (is ∙ same)
  of-shape f p is OutOfMemory g = tt

  right_fault : (a : ShapeAnswer) → shape_answer end words ≡ a → (e : SyntaxFault) → Gives {X = X} {Y = Y} view (meant c want of a) (Err e) → IsRightFault c want end words e
  right_fault (Shaped s) is e g = of-meaning s (meaning.first_fault c want s) (of s) (was-read end words s is) refl e g
  right_fault (Broken fault p) is e g = of-shape fault p is e g

  -- the tree
  read_tree : (a : ShapeAnswer) → shape_answer end words ≡ a → (x : X) → Gives {X = X} {Y = Y} view (meant c want of a) (Ok x)
      → (s : Shape) × shapes.IsReading limits (map symbol words) (shapes.Read s) × (meaning.first_fault c want s ≡ None) × (of s ≡ view x)
  read_tree (Broken fault p) is x g = absurd cc
  read_tree (Shaped s) is x g = by_fault (meaning.first_fault c want s) refl g
    where
      by_fault : (o : Option meaning.Fault) → meaning.first_fault c want s ≡ o → faultless o (of s) ≡ Read (view x)
          → (s : Shape) × shapes.IsReading limits (map symbol words) (shapes.Read s) × (meaning.first_fault c want s ≡ None) × (of s ≡ view x)
      by_fault None e k = (s, was-read end words s is, e, cc)
      by_fault (Some f) e k = absurd cc

pub right_term : (c : Scope) (end : ℕ) (words : List Lexeme) (result : Result Term SyntaxFault) → Gives term (term_answer c end words) result → IsRightTerm c end words result
right_term c end words (Err e) g = right_fault term c meaning.TermSort (term_of c) end words (shape_answer end words) refl e g
right_term c end words (Ok t) g =
    let (s, h, e, is) = read_tree term c meaning.TermSort (term_of c) end words (shape_answer end words) refl t g in
    record { spells = record { shape = s; spelled = h.0; faultless = e; means = is }; good = h.1 }

pub right_formula : (c : Scope) (end : ℕ) (words : List Lexeme) (result : Result Formula SyntaxFault) → Gives formula (formula_answer c end words) result → IsRightFormula c end words result
right_formula c end words (Err e) g = right_fault formula c meaning.FormulaSort (formula_of c) end words (shape_answer end words) refl e g
right_formula c end words (Ok a) g =
    let (s, h, e, is) = read_tree formula c meaning.FormulaSort (formula_of c) end words (shape_answer end words) refl a g in
    record { spells = record { shape = s; spelled = h.0; faultless = e; means = is }; good = h.1 }

-- ---- fits

pub fit_term : (c : Scope) (end : ℕ) (words : List Lexeme) (result : Result Term SyntaxFault) → IsRightTerm c end words result
    → IfOk result (λ t. (fits_term (signature_of c.declared).functions (length c.vars) (length c.binders) (term t) ≡ true) × (is_live c.vars (term t) ≡ true))
fit_term c end words (Err e) h = tt
fit_term c end words (Ok t) h =
    let m = h.spells in
    let P : Tm → Type 0 = λ t. (fits_term (signature_of c.declared).functions (length c.vars) (length c.binders) t ≡ true) × (is_live c.vars t ≡ true) in
    subst P m.means (term-fit c m.shape m.spelled.0 m.faultless, term-live c m.shape)

pub fit_formula : (c : Scope) (end : ℕ) (words : List Lexeme) (result : Result Formula SyntaxFault) → IsRightFormula c end words result
    → IfOk result (λ a. (fits (signature_of c.declared) (length c.vars) (length c.binders) (formula a) ≡ true) × (is_live_formula c.vars (formula a) ≡ true))
fit_formula c end words (Err e) h = tt
fit_formula c end words (Ok a) h =
    let m = h.spells in
    let P : Fm → Type 0 = λ a. (fits (signature_of c.declared) (length c.vars) (length c.binders) a ≡ true) × (is_live_formula c.vars a ≡ true) in
    subst P m.means (formula-fit c m.shape m.spelled.0 m.faultless, formula-live c m.shape)

-- the two facts apart
pub fits_of_term : (c : Scope) (end : ℕ) (words : List Lexeme) (result : Result Term SyntaxFault) → IsRightTerm c end words result
    → IfOk result (λ t. fits_term (signature_of c.declared).functions (length c.vars) (length c.binders) (term t) ≡ true)
fits_of_term c end words (Err e) h = tt
fits_of_term c end words (Ok t) h = (fit_term c end words (Ok t) h).0

pub live_of_term : (c : Scope) (end : ℕ) (words : List Lexeme) (result : Result Term SyntaxFault) → IsRightTerm c end words result
    → IfOk result (λ t. is_live c.vars (term t) ≡ true)
live_of_term c end words (Err e) h = tt
live_of_term c end words (Ok t) h = (fit_term c end words (Ok t) h).1
