-- What holds of every meaning.
use Rattle.std.specs.Prelude.{◌≡◌, true, length, None}
use Rattle.pg_logic.specs.Signature.{fits, fits_term}
use Rattle.pg_logic.specs.Declarations.{signature_of}
use Rattle.pg_grammar.specs.Shapes.{Shape, IsShape}
use Rattle.pg_meaning.specs.Scope.{Scope}
use Rattle.pg_meaning.specs.Faults.{TermSort, FormulaSort, first_fault}
use Rattle.pg_meaning.specs.Meaning.{term_of, formula_of}
use Rattle.pg_meaning.specs.Live.{is_live, is_live_formula}

-- what a shape without a fault means fits the variables and the binders around it
abbrev pub TermFitLaw : Type 0
TermFitLaw = (c : Scope) (s : Shape) → IsShape s → first_fault c TermSort s ≡ None →
    fits_term (signature_of c.declared).functions (length c.vars) (length c.binders) (term_of c s) ≡ true

abbrev pub FormulaFitLaw : Type 0
FormulaFitLaw = (c : Scope) (s : Shape) → IsShape s → first_fault c FormulaSort s ≡ None →
    fits (signature_of c.declared) (length c.vars) (length c.binders) (formula_of c s) ≡ true

-- what a shape means has live variables only
abbrev pub TermLiveLaw : Type 0
TermLiveLaw = (c : Scope) (s : Shape) → is_live c.vars (term_of c s) ≡ true

abbrev pub FormulaLiveLaw : Type 0
FormulaLiveLaw = (c : Scope) (s : Shape) → is_live_formula c.vars (formula_of c s) ≡ true
