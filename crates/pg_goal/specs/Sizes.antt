-- How many nodes terms and formulas have that are opened by a term, under so many binders.
use Rattle.std.specs.Prelude.{ℕ}
use Rattle.pg_logic.specs.Tree.{Tm, Tms, Fm, nodes, nodes_all, nodes_of, mapped, mapped_all, mapped_formula, kept_free, opened_bound}

-- a term
abbrev pub opened_nodes : (by : Tm) → (depth : ℕ) → Tm → ℕ
opened_nodes s d t = nodes (mapped kept_free (opened_bound s) d t)

-- the arguments of a function or a predicate
abbrev pub all_opened_nodes : (by : Tm) → (depth : ℕ) → Tms → ℕ
all_opened_nodes s d ts = nodes_all (mapped_all kept_free (opened_bound s) d ts)

-- a formula
abbrev pub formula_nodes : (by : Tm) → (depth : ℕ) → Fm → ℕ
formula_nodes s d a = nodes_of (mapped_formula kept_free (opened_bound s) d a)
