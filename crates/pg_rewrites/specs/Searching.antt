-- What a search for the fewest binders and antecedents answers.
use Rattle.std.specs.Prelude.{ℕ, length, Bool, true, false, Option, Some, None, if◌then◌else◌}
use Rattle.std.specs.Borrow.{Bor}
use Rattle.pg_logic.specs.Tree.{Tm, Fm, eq, imp, all}
use Rattle.pg_terms.specs.declared.term.Term.{Term}
use Rattle.pg_terms.specs.declared.formula.Formula.{Formula}
use Rattle.pg_terms.specs.View.{term, formula}
use Rattle.pg_moves.specs.Instances.{Values, formula_instance}
use Rattle.pg_moves.specs.Stripped.{Stripped, Matched, with_values}
use Rattle.pg_match.specs.View.{found_values}
use Rattle.pg_rewrites.specs.Applying.{steps_of}
use Rattle.pg_rewrites.specs.declared.applying.Fewest.{Fewest}

-- the values by which a formula is an instance of what is left
abbrev pub looks : Fm → Stripped → Option Matched
looks subject st = with_values st (formula_instance st.rest (length st.binders) subject)

-- values, and how many binders and antecedents are stripped
pub record Short : Type 0 where
  pub values : Values
  pub steps : ℕ

-- what is found
abbrev pub short : Fewest → Short
short f = record { values = found_values f.values; steps = f.steps }

-- the same without names and formulas
abbrev pub shortened : Matched → Short
shortened m = record { values = m.values; steps = steps_of m.form }

-- ---- sides

-- a formula, a term that is lent
abbrev pub lent_formula : Bor Formula → Fm
lent_formula a = formula a.now

abbrev pub lent_term : Bor Term → Tm
lent_term t = term t.now

-- the left side of an implication
abbrev pub left_side : Fm → Option Fm
left_side (imp a b) = Some a
left_side a = None

-- the right side of an implication
abbrev pub right_side : Fm → Option Fm
right_side (imp a b) = Some b
right_side a = None

-- the side of an equation that is replaced
abbrev pub old_side : Bool → Fm → Option Tm
old_side back (eq s t) = Some (if back then t else s)
old_side back a = None

-- whether a binder or an antecedent can be taken off
abbrev pub strips : Fm → Bool
strips (all x a) = true
strips (imp a b) = true
strips a = false
