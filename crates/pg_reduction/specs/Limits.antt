-- What is told of a number that may be over its type's end.
use Rattle.std.specs.Prelude.{◌≡◌, ◌-◌, ◌^◌, List, length, min, Option, Some, None, option_map}
use Rattle.pg_logic.specs.Tree.{Fm, nodes_of}
use Rattle.pg_moves.specs.Goals.{Goal}
use Rattle.pg_moves.specs.Measures.{all_nodes, over}
use Rattle.pg_terms.specs.View.{formula}
use Rattle.pg_goal.specs.declared.goal.Hyp.{Hyp}
use Rattle.pg_reduction.specs.View.{cause_of}
use Rattle.pg_reduction.specs.declared.cause.Cause as rust
use Rattle.pg_reduction.specs.declared.limits.Others.{Others}
use Rattle.pg_moves.specs.Causes.{Cause, Nodes, Height, State, TooLarge, TooMany, LeftOpen}

-- what was reached, or else its type's end
abbrev pub told : Cause → Cause
told (TooLarge Nodes reached) = TooLarge Nodes (min reached (2 ^ 64 - 1))
told (TooLarge Height reached) = TooLarge Height (min reached (2 ^ 32 - 1))
told (TooLarge State reached) = TooLarge State (min reached (2 ^ 64 - 1))
told (LeftOpen count) = LeftOpen (min count (2 ^ 32 - 1))
told (TooMany count) = TooMany (min count (2 ^ 32 - 1))
told c = c

-- so many goals stand there, with so many nodes in all
abbrev pub AreOthers : List Goal → Others → Type 0
AreOthers rest o = (o.count ≡ length rest) × (o.nodes ≡ min (all_nodes rest) (2 ^ 64 - 1))

-- the cause is told, if there is one
abbrev pub Tells : Option Cause → Option rust.Cause → Type 0
Tells want found = option_map cause_of found ≡ option_map told want

-- The first limit that is passed, where a formula that passes this one stands behind what is measured.
abbrev pub IsFirst : Option Cause → (limit first : rust.Cause) → Type 0
IsFirst (Some x) limit first = told x ≡ cause_of first
IsFirst None limit first = first ≡ limit

-- the limit of nodes, where a formula passes it
abbrev pub large_nodes : Fm → Option Cause
large_nodes a = over 4096 (nodes_of a) (TooLarge Nodes (nodes_of a))

-- ---- inside

-- the formula of a hypothesis
abbrev pub hyp_formula : Hyp → Fm
hyp_formula h = formula h.formula
