-- Printing, read back: what is asked of names, and what the printed shape means.
use Rattle.std.specs.Prelude.{ℕ, ◌≡◌, ◌+◌, ◌<◌, ◌^◌, Bool, true, false, List, [], ◌∷◌, length, Option, Some, None}
use Rattle.std.specs.List.{list_any}
use Rattle.std.specs.Str.{bytes_eq}
use Rattle.pg_logic.specs.Tree.{Tm, Fm, falsum, eq, pred, and, or, imp, all, ex, same_formula, nodes_of}
use Rattle.pg_logic.specs.Declarations.{Name, NamedFunction, NamedPredicate, Declarations, AreDeclared, name_of, arity_of, signature_of}
use Rattle.pg_logic.specs.Signature.{fits, fits_term}
use Rattle.pg_grammar.specs.Shapes.{IsShape}
use Rattle.pg_grammar.specs.Printing.{Join, AtMost, Below, Sum, Product, Raised, shape_of}
use Rattle.pg_meaning.specs.Scope.{Scope, outermost, is_zero}
use Rattle.pg_meaning.specs.Faults.{TermSort, FormulaSort, first_fault}
use Rattle.pg_meaning.specs.Meaning.{term_of, formula_of}
use Rattle.pg_meaning.specs.Live.{is_live, is_live_formula}
use Rattle.pg_spelling.specs.Fresh.{fresh}
use Rattle.pg_spelling.specs.Occurring.{EachFunction, EachSymbol}
use Rattle.pg_spelling.specs.Named.{under, live, declared_names, taken, sign_named, begins_with_digit, named, named_formula}

-- no two of the names are equal
abbrev pub AllDiffer : List Name → Type 0
AllDiffer [] = Unit {0}
AllDiffer (x ∷ xs) = (list_any (bytes_eq x) xs ≡ false) × AllDiffer xs

-- none of the first names is among the second
abbrev pub NoneAmong : List Name → List Name → Type 0
NoneAmong [] names = Unit {0}
NoneAmong (x ∷ xs) names = (list_any (bytes_eq x) names ≡ false) × NoneAmong xs names

-- A function has the name + * or ^ and two arguments; or a number other than 0 for its name, and none; or another name.
abbrev pub CanName : Option Join → Bool → Name → ℕ → Type 0
CanName (Some Sum) numeral name arity = arity ≡ 2
CanName (Some Product) numeral name arity = arity ≡ 2
CanName (Some Raised) numeral name arity = arity ≡ 2
CanName (Some _) numeral name arity = ⊥
CanName None true name arity = (arity ≡ 0) × (is_zero name ≡ false)
CanName None false name arity = Unit {0}

-- A predicate has the name ≤ or < and two arguments; or another name, which is no number.
abbrev pub CanTell : Option Join → Bool → ℕ → Type 0
CanTell (Some AtMost) numeral arity = arity ≡ 2
CanTell (Some Below) numeral arity = arity ≡ 2
CanTell (Some _) numeral arity = ⊥
CanTell None true arity = ⊥
CanTell None false arity = Unit {0}

-- a function, and a predicate, is named as it may be
abbrev pub IsFunctionName : NamedFunction → Type 0
IsFunctionName f = CanName (sign_named (name_of f)) (begins_with_digit (name_of f)) (name_of f) (arity_of f)

abbrev pub IsPredicateName : NamedPredicate → Type 0
IsPredicateName p = CanTell (sign_named p.name) (begins_with_digit p.name) p.arity

-- the formula with the names of its binders as they are printed
abbrev pub renamed : Scope → Fm → Fm
renamed s falsum = falsum
renamed s (eq a b) = eq a b
renamed s (pred p ts) = pred p ts
renamed s (and a b) = and (renamed s a) (renamed s b)
renamed s (or a b) = or (renamed s a) (renamed s b)
renamed s (imp a b) = imp (renamed s a) (renamed s b)
renamed s (all x a) = all (fresh (taken s) x) (renamed (under (fresh (taken s) x) s) a)
renamed s (ex x a) = ex (fresh (taken s) x) (renamed (under (fresh (taken s) x) s) a)

-- the printed shape is one, has no fault, and means the same term
pub record TermReadsBack (s : Scope) (t : Tm) : Type 0 where
  pub shape : IsShape (shape_of (named s t))
  pub faultless : first_fault s TermSort (shape_of (named s t)) ≡ None
  pub means : term_of s (shape_of (named s t)) ≡ t

-- likewise the same formula, with its binders' printed names
pub record ReadsBack (s : Scope) (a : Fm) : Type 0 where
  pub shape : IsShape (shape_of (named_formula s a))
  pub faultless : first_fault s FormulaSort (shape_of (named_formula s a)) ≡ None
  pub means : formula_of s (shape_of (named_formula s a)) ≡ renamed s a
  pub same : same_formula a (renamed s a) ≡ true

-- the live names differ from one another and from the declared names
pub record LiveDiffer (vars : List (Option Name)) (d : Declarations) : Type 0 where
  pub differ : AllDiffer (live vars)
  pub undeclared : NoneAmong (live vars) (declared_names d)

-- What reading back asks of a tree: the live names differ, each function, constant and predicate of the tree is named as it
-- may be, and the tree fits and has live variables only; for a formula besides that the names and its nodes are fewer than 2^64.
pub record CanReadTerm (vars : List (Option Name)) (d : Declarations) (t : Tm) : Type 0 where
  pub live : LiveDiffer vars d
  pub named : EachFunction IsFunctionName d t
  pub fitting : fits_term (signature_of d).functions (length vars) 0 t ≡ true
  pub living : is_live vars t ≡ true

pub record CanReadFormula (vars : List (Option Name)) (d : Declarations) (a : Fm) : Type 0 where
  pub live : LiveDiffer vars d
  pub named : EachSymbol IsFunctionName IsPredicateName d a
  pub fitting : fits (signature_of d) (length vars) 0 a ≡ true
  pub living : is_live_formula vars a ≡ true
  pub small : length (taken (outermost vars d)) + nodes_of a < 2 ^ 64

-- The declarations are those of a signature: no two declared names are equal.
abbrev pub TermBackLaw : Type 0
TermBackLaw =
    (vars : List (Option Name)) (d : Declarations) (t : Tm) → AreDeclared d → CanReadTerm vars d t → TermReadsBack (outermost vars d) t

abbrev pub BackLaw : Type 0
BackLaw =
    (vars : List (Option Name)) (d : Declarations) (a : Fm) → AreDeclared d → CanReadFormula vars d a → ReadsBack (outermost vars d) a
