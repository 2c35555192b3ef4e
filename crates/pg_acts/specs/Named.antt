-- The acts on hypotheses, where what they name is found and what they say is read.
use Rattle.std.specs.Prelude.{ℕ, List, [], ◌∷◌, drop, Option, Ok, Err}
use Rattle.pg_base.specs.Tokens.{Word}
use Rattle.pg_logic.specs.Tree.{Fm, falsum, imp}
use Rattle.pg_moves.specs.Goals.{Goal, live_names, aimed, with_hyp}
use Rattle.pg_moves.specs.Causes.{Tried, WrongShape, and_then, wanted}
use Rattle.pg_logic.specs.Declarations.{Name}
use Rattle.pg_moves.specs.Lookup.{Lookup, given_name, new_name}
use Rattle.pg_moves.specs.Assuming.{Found, changed_to, swapped}
use Rattle.pg_moves.specs.Frames.{Frame, cut}
use Rattle.pg_moves.specs.Framing.{swapped_proof}

-- a formula, or else the cause that there is none of the form
abbrev pub answer : Option Fm → Tried Fm
answer o = wanted o WrongShape

-- `have h : A`
abbrev pub asserted_as : Lookup → Goal → Word → Fm → Tried (List Goal)
asserted_as l g h a = and_then (given_name l (live_names g) h) (λ n. Ok (aimed a g ∷ with_hyp n a g ∷ []))

-- `by_cases h : A`
abbrev pub split_as : Lookup → Goal → Word → Fm → Tried (List Goal)
split_as l g h a = and_then (given_name l (live_names g) h) (λ n. Ok (with_hyp n a g ∷ with_hyp n (imp a falsum) g ∷ []))

-- the second hypothesis of a conjunction, where the first one stands
abbrev pub second_part : Lookup → Goal → Name → List Word → Fm → Tried (List Goal)
second_part l g h ws b = and_then (new_name l (live_names g) (drop 1 ws) h) (λ y. Ok (with_hyp y b g ∷ []))

-- `symm at h`
abbrev pub swapped_at : Goal → Found → Tried (List Goal)
swapped_at g f = and_then (swapped f.hyp.formula) (λ a. Ok (changed_to g f a ∷ []))

-- the frames of `symm at h`, where so many hypotheses stand and the hypothesis is to say this
abbrev pub swapping : ℕ → Found → Tried Fm → List Frame
swapping k f (Ok a) = cut a (swapped_proof f.number k f.hyp.formula) ∷ []
swapping k f (Err c) = []
