-- Trees whose free variables are all live.
use Rattle.std.specs.Prelude.{ℕ, Bool, true, false, ◌&&◌, List, Option, Some, slice_get}
use Rattle.pg_logic.specs.Tree.{Tm, free, bound, nought, succ, app, Tms, none, arg, Fm, falsum, eq, pred, and, or, imp, all, ex}

-- variable i has a name
abbrev pub is_named : Option (Option (List ℕ)) → Bool
is_named (Some (Some name)) = true
is_named _ = false

abbrev mutual
  pub is_live : List (Option (List ℕ)) → Tm → Bool
  is_live vars (free i) = is_named (slice_get vars i)
  is_live vars (bound i) = true
  is_live vars nought = true
  is_live vars (succ t) = is_live vars t
  is_live vars (app f ts) = are_live vars ts

  pub are_live : List (Option (List ℕ)) → Tms → Bool
  are_live vars none = true
  are_live vars (arg t ts) = is_live vars t && are_live vars ts

abbrev pub is_live_formula : List (Option (List ℕ)) → Fm → Bool
is_live_formula vars falsum = true
is_live_formula vars (eq s t) = is_live vars s && is_live vars t
is_live_formula vars (pred p ts) = are_live vars ts
is_live_formula vars (and a b) = is_live_formula vars a && is_live_formula vars b
is_live_formula vars (or a b) = is_live_formula vars a && is_live_formula vars b
is_live_formula vars (imp a b) = is_live_formula vars a && is_live_formula vars b
is_live_formula vars (all x a) = is_live_formula vars a
is_live_formula vars (ex x a) = is_live_formula vars a
