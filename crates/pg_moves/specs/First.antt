-- The first goal of a statement: its variables and hypotheses in their order, all live, and its target.
use Rattle.std.specs.Prelude.{true, List, [], ◌∷◌}
use Rattle.pg_logic.specs.Tree.{Fm}
use Rattle.pg_terms.specs.View.{formula}
use Rattle.pg_syntax.specs.declared.statement.Binder.{Binder}
use Rattle.pg_syntax.specs.declared.statement.Binder.TheVariants as binder
use Rattle.pg_moves.specs.Goals.{Var, Hyp, Goal}

-- the variables of binders, all live
abbrev pub first_vars : List Binder → List Var
first_vars [] = []
first_vars (binder.Var x ∷ more) = record { name = x; live = true } ∷ first_vars more
first_vars (binder.Hyp h a ∷ more) = first_vars more

-- the hypotheses of binders, all live
abbrev pub first_hyps : List Binder → List Hyp
first_hyps [] = []
first_hyps (binder.Var x ∷ more) = first_hyps more
first_hyps (binder.Hyp h a ∷ more) = record { name = h; formula = formula a; live = true } ∷ first_hyps more

-- the first goal of a statement
abbrev pub first_goal : List Binder → Fm → Goal
first_goal binders target = record { vars = first_vars binders; hyps = first_hyps binders; target = target }
