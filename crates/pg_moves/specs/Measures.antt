-- How large goals may be.
use Rattle.std.specs.Prelude.{ℕ, List, [], ◌∷◌, ◌++◌, length, map, sum, flat_map, nat_lt, Option, Some, None, if◌then◌else◌}
use Rattle.pg_logic.specs.Tree.{Fm, nodes_of, height_of}
use Rattle.pg_spelling.specs.Named.{live}
use Rattle.pg_moves.specs.Goals.{Hyp, Goal, var_names, hyp_name}
use Rattle.pg_moves.specs.Causes.{Cause, TooLarge, TooMany, Nodes, Height, Variables, Hypotheses, State, Tried, unless_wrong}
use Rattle.pg_moves.specs.Instances.{first_found}

-- the cause, where the limit is passed
abbrev pub over : (limit reached : ℕ) → Cause → Option Cause
over limit reached cause = if nat_lt limit reached then Some cause else None

-- the first that is over its limit
abbrev pub first_over : List (Option Cause) → Option Cause
first_over cs = first_found (λ (c : Option Cause). c) cs

-- the hypotheses, dead ones too, and then the target
abbrev pub formulas : Goal → List Fm
formulas g = map (λ (h : Hyp). h.formula) g.hyps ++ g.target ∷ []

-- the nodes of a formula, then its height
abbrev pub formula_measures : Fm → List (Option Cause)
formula_measures a = over 4096 (nodes_of a) (TooLarge Nodes (nodes_of a)) ∷ over 256 (height_of a) (TooLarge Height (height_of a)) ∷ []

-- how many live variables a goal has
abbrev pub live_vars : Goal → ℕ
live_vars g = length (live (var_names g))

-- how many live hypotheses
abbrev pub live_hyps : Goal → ℕ
live_hyps g = length (live (map hyp_name g.hyps))

-- the live variables of a goal, its live hypotheses, then each formula
abbrev pub goal_measures : Goal → List (Option Cause)
goal_measures g =
    over 64 (live_vars g) (TooLarge Variables (live_vars g))
    ∷ over 64 (live_hyps g) (TooLarge Hypotheses (live_hyps g))
    ∷ flat_map formula_measures (formulas g)

-- the nodes of all formulas of a goal, and of goals
abbrev pub goal_nodes : Goal → ℕ
goal_nodes g = sum (map nodes_of (formulas g))

-- the nodes of all formulas of some goals
abbrev pub all_nodes : List Goal → ℕ
all_nodes gs = sum (map goal_nodes gs)

-- the number of goals of a block, then the nodes of all their formulas
abbrev pub block_measures : List Goal → List (Option Cause)
block_measures gs = over 64 (length gs) (TooMany (length gs)) ∷ over 65536 (all_nodes gs) (TooLarge State (all_nodes gs)) ∷ []

-- of the new goals in order, then of all goals of the block
abbrev pub first_large : (new block : List Goal) → Option Cause
first_large new block = first_over (flat_map goal_measures new ++ block_measures block)

-- the block's goals, if none is too large
abbrev pub within_limits : (new block : List Goal) → Tried (List Goal)
within_limits new block = unless_wrong (first_large new block) block
