-- `induction` and `cases` of a variable: the goal at zero and the goal at a successor.
use Rattle.std.specs.Prelude.{ℕ, List, [], ◌∷◌, ◌++◌, length, map, drop, Option, Some, None, Ok, Err, codes}
use Rattle.pg_base.specs.Tokens.{Word}
use Rattle.pg_logic.specs.Tree.{Tm, free, nought, succ, Fm}
use Rattle.pg_logic.specs.Declarations.{Name}
use Rattle.pg_moves.specs.Goals.{Goal, live_names, variable_named, aimed, with_var, with_hyp}
use Rattle.pg_moves.specs.Causes.{Tried, WrongShape, NoSuchName, and_then}
use Rattle.pg_moves.specs.Lookup.{Lookup, new_name}
use Rattle.pg_moves.specs.Holding.{Carried, carried, without_held, before, put_for}
use Rattle.pg_moves.specs.Assuming.{Found, hypothesis, at_most, cases_of_hyp}

-- copies of the carried hypotheses with a term for variable k
abbrev pub with_copies : ℕ → Tm → List Carried → Goal → Goal
with_copies k t [] g = g
with_copies k t (c ∷ cs) g = with_copies k t cs (with_hyp c.hyp.name (put_for k t c.hyp.formula) g)

-- the names of the copies
abbrev pub carried_names : List Carried → List Name
carried_names cs = map (λ c. c.hyp.name) cs

-- the goal at zero
abbrev pub base_goal : Goal → ℕ → Goal
base_goal g k = aimed (put_for k nought g.target) (with_copies k nought (carried k g) (without_held k g))

-- the goal at a successor, behind the new variable and, in an induction, its hypothesis
abbrev pub step_goal : Goal → ℕ → Goal → Goal
step_goal g k rest = let t = succ (free (length g.vars)) in aimed (put_for k t g.target) (with_copies k t (carried k g) rest)

-- the names that are in use in it
abbrev pub step_names : Goal → ℕ → Goal → List Name
step_names g k rest = live_names rest ++ carried_names (carried k g)

-- of the new variable: the carried hypotheses before the target
abbrev pub induction_hyp : Goal → ℕ → Fm
induction_hyp g k = put_for k (free (length g.vars)) (before (carried k g) g.target)

-- the name of the variable of the step goal: the first one given, or else `d`
abbrev pub new_variable : Lookup → Goal → ℕ → List Word → Tried Name
new_variable l g k ws = new_name l (step_names g k (without_held k g)) ws (codes "d")

-- the name of the hypothesis of induction, behind the variable x: the second one given, or else `hd`
abbrev pub new_hypothesis : Lookup → Goal → ℕ → Name → List Word → Tried Name
new_hypothesis l g k x ws = new_name l (step_names g k (with_var x (without_held k g))) (drop 1 ws) (codes "hd")

-- `cases n with d`
abbrev pub cases_of_var : Lookup → Goal → ℕ → List Word → Tried (List Goal)
cases_of_var l g k ws =
    and_then (at_most 1 ws) (λ vs. and_then (new_variable l g k vs) (λ x. Ok (base_goal g k ∷ step_goal g k (with_var x (without_held k g)) ∷ [])))

-- `induction n with d hd`
abbrev pub induction_of_var : Lookup → Goal → ℕ → List Word → Tried (List Goal)
induction_of_var l g k ws =
    and_then (at_most 2 ws) (λ vs. and_then (new_variable l g k vs) (λ x. and_then (new_hypothesis l g k x vs) (λ h.
    Ok (base_goal g k ∷ step_goal g k (with_hyp h (induction_hyp g k) (with_var x (without_held k g))) ∷ []))))

-- a live variable of this name; a hypothesis has the wrong shape
abbrev pub inducted_as : Lookup → Goal → Word → List Word → Option ℕ → Option Found → Tried (List Goal)
inducted_as l g n ws (Some k) f = induction_of_var l g k ws
inducted_as l g n ws None (Some f) = Err WrongShape
inducted_as l g n ws None None = Err (NoSuchName n.at)

-- `induction n with d hd`
abbrev pub inducted : Lookup → Goal → Word → List Word → Tried (List Goal)
inducted l g n ws = inducted_as l g n ws (variable_named g n.text) (hypothesis g n.text)

-- a live variable of this name, or else a live hypothesis
abbrev pub cases_as : Lookup → Goal → Word → List Word → Option ℕ → Option Found → Tried (List Goal)
cases_as l g n ws (Some k) f = cases_of_var l g k ws
cases_as l g n ws None (Some f) = cases_of_hyp l g f ws
cases_as l g n ws None None = Err (NoSuchName n.at)

-- `cases n with d`, `cases h with ..`
abbrev pub cases : Lookup → Goal → Word → List Word → Tried (List Goal)
cases l g n ws = cases_as l g n ws (variable_named g n.text) (hypothesis g n.text)
