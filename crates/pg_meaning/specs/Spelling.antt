-- Which symbols spell a term or a formula, and what the fault of others is.
use Rattle.std.specs.Prelude.{◌≡◌, List, Some, None}
use Rattle.pg_logic.specs.Tree.{Tm, Fm}
use Rattle.pg_grammar.specs.Shapes.{Sym, Shape}
use Rattle.pg_grammar.specs.Faults.{IsShapeOf}
use Rattle.pg_meaning.specs.Scope.{Scope}
use Rattle.pg_meaning.specs.Faults.{Sort, TermSort, FormulaSort, Fault, first_fault}
use Rattle.pg_meaning.specs.Meaning.{term_of, formula_of}

-- The symbols are one shape, and it means this term.
pub record SpellsTerm (c : Scope) (syms : List Sym) (t : Tm) : Type 0 where
  pub shape : Shape
  pub spelled : IsShapeOf shape syms
  pub faultless : first_fault c TermSort shape ≡ None
  pub means : term_of c shape ≡ t

-- The symbols are one shape, and it means this formula.
pub record SpellsFormula (c : Scope) (syms : List Sym) (a : Fm) : Type 0 where
  pub shape : Shape
  pub spelled : IsShapeOf shape syms
  pub faultless : first_fault c FormulaSort shape ≡ None
  pub means : formula_of c shape ≡ a

-- The symbols are one shape, and in its meaning this fault is the first.
pub record HasFirstFault (c : Scope) (want : Sort) (syms : List Sym) (fault : Fault) : Type 0 where
  pub shape : Shape
  pub spelled : IsShapeOf shape syms
  pub first : first_fault c want shape ≡ Some fault
