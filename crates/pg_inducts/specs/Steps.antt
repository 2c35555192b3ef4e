-- `induction` and `cases` of a variable, name by name.
use Rattle.std.specs.Prelude.{ℕ, List, [], ◌∷◌, drop, Ok, codes}
use Rattle.pg_base.specs.Tokens.{Word}
use Rattle.pg_moves.specs.Causes.{Tried, and_then}
use Rattle.pg_moves.specs.Goals.{Goal, with_var, with_hyp}
use Rattle.pg_moves.specs.Holding.{without_held}
use Rattle.pg_moves.specs.Inducting.{base_goal, step_goal, step_names, induction_hyp, new_variable}
use Rattle.pg_moves.specs.Lookup.{Lookup, new_name}

-- the hypothesis of induction gets its name, behind what stands in a goal
abbrev pub by_hypothesis : Lookup → Goal → ℕ → List Word → Goal → Tried (List Goal)
by_hypothesis l g k ws rest =
    and_then (new_name l (step_names g k rest) (drop 1 ws) (codes "hd")) (λ h. Ok (base_goal g k ∷ step_goal g k (with_hyp h (induction_hyp g k) rest) ∷ []))

-- `induction`, where no name is too many
abbrev pub by_variable : Lookup → Goal → ℕ → List Word → Tried (List Goal)
by_variable l g k ws = and_then (new_variable l g k ws) (λ x. by_hypothesis l g k ws (with_var x (without_held k g)))

-- `cases` of a variable, where no name is too many
abbrev pub case_named : Lookup → Goal → ℕ → List Word → Tried (List Goal)
case_named l g k ws = and_then (new_variable l g k ws) (λ x. Ok (base_goal g k ∷ step_goal g k (with_var x (without_held k g)) ∷ []))
