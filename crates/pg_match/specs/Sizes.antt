-- How large trees are, and how large a pattern is with its holes filled.
use Rattle.std.specs.Prelude.{ℕ, ◌+◌, ◌-◌, ◌^◌, ◌≡◌, min, max, List, length, map, nat_lt, slice_get, unwrap_or, if◌then◌else◌}
use Rattle.pg_logic.specs.Tree.{Tm, bound, nought, succ, app, Tms, none, arg, Fm, falsum, eq, pred, and, or, imp, all, ex, nodes, height}
use Rattle.pg_moves.specs.Instances.{AreTight}
use Rattle.pg_match.specs.declared.sizing.Size.{Size}

-- the nodes and the height of a term, or else their types' ends
abbrev pub size_of : Tm → Size
size_of t = record { nodes = min (nodes t) (2 ^ 64 - 1); height = min (height t) (2 ^ 32 - 1) }

-- The terms hold no bound variable, and these are their sizes.
pub record AreSizes (ts : List Tm) (sizes : List Size) : Type 0 where
  pub tight : AreTight ts
  pub are : sizes ≡ map size_of ts

-- ---- inside

-- what stands for the bound variable j of a pattern, under d of the pattern's own binders
abbrev pub hole : ℕ → List Tm → ℕ → Tm
hole d ts j = if nat_lt j d then bound j else if nat_lt (j - d) (length ts) then unwrap_or (slice_get ts (length ts - 1 - (j - d))) nought else bound (j - length ts)

-- the nodes of a pattern so filled
abbrev mutual
  pub filled_nodes : ℕ → List Tm → Tm → ℕ
  filled_nodes d ts (bound j) = nodes (hole d ts j)
  filled_nodes d ts (succ t) = filled_nodes d ts t + 1
  filled_nodes d ts (app f us) = all_nodes d ts us + 1
  filled_nodes d ts t = 1

  pub all_nodes : ℕ → List Tm → Tms → ℕ
  all_nodes d ts none = 0
  all_nodes d ts (arg t us) = filled_nodes d ts t + all_nodes d ts us

abbrev pub formula_nodes : ℕ → List Tm → Fm → ℕ
formula_nodes d ts falsum = 1
formula_nodes d ts (eq s t) = filled_nodes d ts s + filled_nodes d ts t + 1
formula_nodes d ts (pred p us) = all_nodes d ts us + 1
formula_nodes d ts (and a b) = formula_nodes d ts a + formula_nodes d ts b + 1
formula_nodes d ts (or a b) = formula_nodes d ts a + formula_nodes d ts b + 1
formula_nodes d ts (imp a b) = formula_nodes d ts a + formula_nodes d ts b + 1
formula_nodes d ts (all x a) = formula_nodes (d + 1) ts a + 1
formula_nodes d ts (ex x a) = formula_nodes (d + 1) ts a + 1

-- and its height
abbrev mutual
  pub filled_height : ℕ → List Tm → Tm → ℕ
  filled_height d ts (bound j) = height (hole d ts j)
  filled_height d ts (succ t) = filled_height d ts t + 1
  filled_height d ts (app f us) = all_height d ts us + 1
  filled_height d ts t = 1

  pub all_height : ℕ → List Tm → Tms → ℕ
  all_height d ts none = 0
  all_height d ts (arg t us) = max (filled_height d ts t) (all_height d ts us)

abbrev pub formula_height : ℕ → List Tm → Fm → ℕ
formula_height d ts falsum = 1
formula_height d ts (eq s t) = max (filled_height d ts s) (filled_height d ts t) + 1
formula_height d ts (pred p us) = all_height d ts us + 1
formula_height d ts (and a b) = max (formula_height d ts a) (formula_height d ts b) + 1
formula_height d ts (or a b) = max (formula_height d ts a) (formula_height d ts b) + 1
formula_height d ts (imp a b) = max (formula_height d ts a) (formula_height d ts b) + 1
formula_height d ts (all x a) = formula_height (d + 1) ts a + 1
formula_height d ts (ex x a) = formula_height (d + 1) ts a + 1
