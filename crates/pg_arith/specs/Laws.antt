-- Laws of truth, of every signature.
use Rattle.std.specs.Prelude.{ℕ, ◌≡◌, ◌↔◌, true, List, [], ◌∷◌, ◌++◌, length, map, Some, slice_get}
use Rattle.pg_logic.specs.Tree.{Tm, args_of, Fm, opened_formula, substituted_formula, is_tight, are_tight}
use Rattle.pg_logic.specs.Axioms.{Axiom, axioms}
use Rattle.pg_logic.specs.Declarations.{Declarations, AreDeclared, signature_of}
use Rattle.pg_logic.specs.Signature.{Signature, fits}
use Rattle.pg_logic.specs.Value.{value, functions_of}
use Rattle.pg_logic.specs.Truth.{IsTrueIn, IsTrueOf, predicates_of}

-- truth with these numbers for the free and the bound variables, the innermost first
abbrev pub TrueAt : Signature → List ℕ → List ℕ → Fm → Type 0
TrueAt s fr bd a = IsTrueIn (functions_of s.functions) (predicates_of (functions_of s.functions) s.predicates) fr bd a

-- a body opened by a term, which has no loose bound variable, is true where the body is, with the term's value for the innermost of its loose bound variables
abbrev pub OpeningLaw : Type 0
OpeningLaw = (s : Signature) (fr bd : List ℕ) (t : Tm) (a : Fm) (n m : ℕ) → is_tight 0 t ≡ true → fits s n m a ≡ true →
    TrueAt s fr bd (opened_formula t a) ↔ TrueAt s fr (value (functions_of s.functions) fr [] t ∷ bd) a

-- what is not false is true
abbrev pub ClassicalLaw : Type 0
ClassicalLaw = (s : Signature) (fr : List ℕ) (a : Fm) → ((IsTrueOf s fr a → ⊥) → ⊥) → IsTrueOf s fr a

-- each axiom of what is declared is true
abbrev pub AxiomLaw : Type 0
AxiomLaw = (d : Declarations) → AreDeclared d → (id : ℕ) (x : Axiom) → slice_get (axioms d) id ≡ Some x → IsTrueOf (signature_of d) [] x.says

-- further numbers for the free variables change nothing, where a formula fits those before them
abbrev pub LongerLaw : Type 0
LongerLaw = (s : Signature) (fr more bd : List ℕ) (m : ℕ) (a : Fm) → fits s (length fr) m a ≡ true → TrueAt s (fr ++ more) bd a ↔ TrueAt s fr bd a

-- a formula with terms for its free variables is true where it is true at the values of these terms, which have no loose bound variable
abbrev pub SubstitutedLaw : Type 0
SubstitutedLaw = (s : Signature) (fr : List ℕ) (by : List Tm) (a : Fm) → are_tight 0 (args_of by) ≡ true → fits s (length by) 0 a ≡ true →
    IsTrueOf s fr (substituted_formula by a) ↔ IsTrueOf s (map (value (functions_of s.functions) fr []) by) a
