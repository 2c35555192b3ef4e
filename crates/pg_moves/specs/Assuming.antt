-- The acts on hypotheses: what new goals each makes of a goal.
use Rattle.std.specs.Prelude.{ℕ, zero, suc, List, [], ◌∷◌, length, drop, Option, Some, None, Ok, Err, slice_get, option_map, option_and_then, if◌then◌else◌}
use Rattle.pg_base.specs.Tokens.{Word}
use Rattle.pg_logic.specs.Tree.{free, Fm, falsum, eq, and, or, imp, all, ex, same_formula, opened_formula, closed_over_formula}
use Rattle.pg_logic.specs.Declarations.{Name}
use Rattle.pg_script.specs.Data.{Part, Expression}
use Rattle.pg_moves.specs.Goals.{Hyp, Goal, live_names, hypothesis_named, variable_named, aimed, with_var, with_hyp, without_hyp}
use Rattle.pg_moves.specs.Causes.{Tried, WrongShape, WrongArgument, NotSame, NoSuchName, and_then, wanted}
use Rattle.pg_moves.specs.Lookup.{Lookup, given_name, new_name}
use Rattle.pg_moves.specs.Holding.{carried, without_held, before}
use Rattle.pg_moves.specs.Closing.{given, formula_there, head_unfolded}

-- ---- the live hypothesis of a name

-- a hypothesis with its number
pub record Found : Type 0 where
  pub number : ℕ
  pub hyp : Hyp

-- hypothesis k of the goal
abbrev pub hyp_at : Goal → ℕ → Option Found
hyp_at g k = option_map (λ h. record { number = k; hyp = h }) (slice_get g.hyps k)

-- the live hypothesis of a name
abbrev pub hypothesis : Goal → Name → Option Found
hypothesis g x = option_and_then (hyp_at g) (hypothesis_named g x)

-- the same, or else the cause at that token
abbrev pub hypothesis_there : Goal → Word → Tried Found
hypothesis_there g h = wanted (hypothesis g h.text) (NoSuchName h.at)

-- the hypothesis dies, and a new one of its name says this instead
abbrev pub changed_to : Goal → Found → Fm → Goal
changed_to g f a = with_hyp f.hyp.name a (without_hyp f.number g)

-- ---- `symm`, `symm at h`

-- an equation, or the negation of one, with its sides swapped
abbrev pub swapped : Fm → Tried Fm
swapped (eq s t) = Ok (eq t s)
swapped (imp (eq s t) falsum) = Ok (imp (eq t s) falsum)
swapped _ = Err WrongShape

-- `symm`
abbrev pub symmetric : Goal → Tried (List Goal)
symmetric g = and_then (swapped g.target) (λ a. Ok (aimed a g ∷ []))

-- `symm at h`
abbrev pub symmetric_at : Goal → Word → Tried (List Goal)
symmetric_at g h = and_then (hypothesis_there g h) (λ f. and_then (swapped f.hyp.formula) (λ a. Ok (changed_to g f a ∷ [])))

-- ---- `have h : A`, `have h := e`, `have h : A := e`, `by_cases h : A`

-- `have h : A`: A becomes a goal, and then a hypothesis of the old goal
abbrev pub asserted : Lookup → Goal → Word → Part → Tried (List Goal)
asserted l g h p = and_then (formula_there l g p) (λ a. and_then (given_name l (live_names g) h) (λ n. Ok (aimed a g ∷ with_hyp n a g ∷ [])))

-- what is said where it is said, else what is given
abbrev pub said_or_given : Lookup → Goal → Option Part → Expression → Tried Fm
said_or_given l g None e = given l g e
said_or_given l g (Some p) e = and_then (formula_there l g p) (λ a. and_then (given l g e) (λ c. if same_formula c a then Ok a else Err (NotSame c)))

-- `have h := e`, `have h : A := e`: a new hypothesis
abbrev pub had : Lookup → Goal → Word → Option Part → Expression → Tried (List Goal)
had l g h p e = and_then (said_or_given l g p e) (λ a. and_then (given_name l (live_names g) h) (λ n. Ok (with_hyp n a g ∷ [])))

-- `by_cases h : A`: a goal with A, and one with its negation
abbrev pub by_cases_of : Lookup → Goal → Word → Part → Tried (List Goal)
by_cases_of l g h p =
    and_then (formula_there l g p) (λ a. and_then (given_name l (live_names g) h) (λ n. Ok (with_hyp n a g ∷ with_hyp n (imp a falsum) g ∷ [])))

-- ---- `revert x`

-- the hypothesis dies and stands before the target
abbrev pub reverted_hyp : Goal → Found → Goal
reverted_hyp g f = aimed (imp f.hyp.formula g.target) (without_hyp f.number g)

-- The variable dies, and so do the live hypotheses that hold it; these stand before the target, and ∀ before them.
abbrev pub reverted_var : Goal → Name → ℕ → Goal
reverted_var g x k = aimed (all x (closed_over_formula k (before (carried k g) g.target))) (without_held k g)

-- a live hypothesis of this name, or else a live variable
abbrev pub reverted_as : Goal → Word → Option Found → Option ℕ → Tried (List Goal)
reverted_as g x (Some f) v = Ok (reverted_hyp g f ∷ [])
reverted_as g x None (Some k) = Ok (reverted_var g x.text k ∷ [])
reverted_as g x None None = Err (NoSuchName x.at)

-- `revert x`
abbrev pub reverted : Goal → Word → Tried (List Goal)
reverted g x = reverted_as g x (hypothesis g x.text) (variable_named g x.text)

-- ---- `cases h with ..`

-- no more names than wanted
abbrev pub at_most : ℕ → List Word → Tried (List Word)
at_most n [] = Ok []
at_most zero (w ∷ ws) = Err (WrongArgument w.at)
at_most (suc n) (w ∷ ws) = and_then (at_most n ws) (λ vs. Ok (w ∷ vs))

-- two hypotheses, whose default is the name h
abbrev pub both_parts : Lookup → Goal → Name → List Word → Fm → Fm → Tried (List Goal)
both_parts l g h ws a b =
    and_then (new_name l (live_names g) ws h) (λ x. and_then (new_name l (live_names (with_hyp x a g)) (drop 1 ws) h) (λ y. Ok (with_hyp y b (with_hyp x a g) ∷ [])))

-- two goals, with a hypothesis each
abbrev pub either_part : Lookup → Goal → Name → List Word → Fm → Fm → Tried (List Goal)
either_part l g h ws a b =
    and_then (new_name l (live_names g) ws h) (λ x. and_then (new_name l (live_names g) (drop 1 ws) h) (λ y. Ok (with_hyp x a g ∷ with_hyp y b g ∷ [])))

-- a variable, whose default is the binder's name, and a hypothesis
abbrev pub some_part : Lookup → Goal → Name → List Word → Name → Fm → Tried (List Goal)
some_part l g h ws z a =
    and_then (new_name l (live_names g) ws z) (λ x. and_then (new_name l (live_names (with_var x g)) (drop 1 ws) h) (λ y.
    Ok (with_hyp y (opened_formula (free (length g.vars)) a) (with_var x g) ∷ [])))

-- what a hypothesis with the name h is taken apart to, by its unfolded form. The goal has it no more
abbrev pub parts_of : Lookup → Goal → Name → List Word → Fm → Tried (List Goal)
parts_of l g h ws (and a b) = and_then (at_most 2 ws) (λ vs. both_parts l g h vs a b)
parts_of l g h ws (or a b) = and_then (at_most 2 ws) (λ vs. either_part l g h vs a b)
parts_of l g h ws (ex z a) = and_then (at_most 2 ws) (λ vs. some_part l g h vs z a)
parts_of l g h ws falsum = and_then (at_most 0 ws) (λ vs. Ok [])
parts_of l g h ws _ = Err WrongShape

-- `cases h with ..`: the hypothesis dies, and its parts come in its place
abbrev pub cases_of_hyp : Lookup → Goal → Found → List Word → Tried (List Goal)
cases_of_hyp l g f ws = parts_of l (without_hyp f.number g) f.hyp.name ws (head_unfolded l f.hyp.formula)
