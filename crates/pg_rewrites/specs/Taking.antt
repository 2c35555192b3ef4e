-- A formula with a proof of it, and what both become where terms stand for the leading binders.
use Rattle.std.specs.Prelude.{List, [], ◌∷◌}
use Rattle.pg_logic.specs.Tree.{Tm, Fm, imp, all, opened_formula}
use Rattle.pg_logic.specs.Declarations.{Name}
use Rattle.pg_logic.specs.Kernel.{Pf, alle}

-- a formula and a proof of it
pub record Claim : Type 0 where
  pub says : Fm
  pub by : Pf

-- the leading binders take these terms, the outermost first
abbrev pub taken_at : List Tm → Fm → Pf → Claim
taken_at (t ∷ ts) (all x a) p = taken_at ts (opened_formula t a) (alle a t p)
taken_at ts a p = record { says = a; by = p }

-- the names of the leading binders, of those behind antecedents too
abbrev pub binder_names : Fm → List Name
binder_names (all x a) = x ∷ binder_names a
binder_names (imp a b) = binder_names b
binder_names a = []
