-- Worked scripts, run from their texts.
use Rattle.std.proofs.Common.{◌≡◌, [], ◌∷◌, true, false, refl}
use Rattle.std.specs.Prelude.{codes}
use Rattle.pg_logic.specs.Tree.{free, bound, nought, succ, eq, imp, all, ex}
use Rattle.pg_script.specs.Scripts.{entries_of_tokens}
use Rattle.pg_script.specs.Blocks.{block_at}
use Rattle.pg_moves.specs.Causes.{SidesDiffer, NoInstance, Undetermined, BarePattern}
use Rattle.pg_moves.specs.Expressions.{gives}
use Rattle.pg_moves.specs.Steps.{new_goals}
use Rattle.pg_moves.specs.Runs.{Closed, Open, run}
use Rattle.pg_moves.proofs.Playing.{var, hyp, goal, stopped, plus, played}

-- the sides of a target that `rfl` does not close; a stop in the second bullet
-- (n : ℕ) : n = 0
--     induction n with d hd
--     · rfl
--     · rw [hd]
--       rfl
induction_and_sides : played (goal (var (codes "n") true ∷ []) [] (eq (free 0) nought)) (codes "induction n with d hd\n· rfl\n· rw [hd]\n  rfl") ≡ stopped 5 0 (SidesDiffer (succ nought) nought) ((goal (var (codes "n") false ∷ var (codes "d") true ∷ []) ((hyp (codes "hd") (eq (free 1) nought) true) ∷ []) (eq (succ nought) nought)) ∷ [])
unfolding run new_goals gives entries_of_tokens block_at lib.Utf8.encode Rattle.std.specs.Fmt.digits
induction_and_sides = refl

-- an argument is a term for the binder, under another binder of the same name
-- (b : ℕ) (h : ∀ a, ∃ b, b = succ a) : 0 = 0
--     have g := h b
opened_under_binder : played (goal (var (codes "b") true ∷ []) ((hyp (codes "h") (all (codes "a") (ex (codes "b") (eq (bound 0) (succ (bound 1))))) true) ∷ []) (eq nought nought)) (codes "have g := h b") ≡ Open ((goal (var (codes "b") true ∷ []) ((hyp (codes "h") (all (codes "a") (ex (codes "b") (eq (bound 0) (succ (bound 1))))) true) ∷ (hyp (codes "g") (ex (codes "b") (eq (bound 0) (succ (free 0)))) true) ∷ []) (eq nought nought)) ∷ [])
unfolding run new_goals gives entries_of_tokens block_at lib.Utf8.encode Rattle.std.specs.Fmt.digits
opened_under_binder = refl

-- no instance holds a bound variable
-- : ∀ x, x + 0 = x
--     rw [add_zero]
no_bound_instance : played (goal [] [] (all (codes "x") (eq (plus (bound 0) nought) (bound 0)))) (codes "rw [add_zero]") ≡ stopped 0 0 NoInstance ((goal [] [] (all (codes "x") (eq (plus (bound 0) nought) (bound 0)))) ∷ [])
unfolding run new_goals gives entries_of_tokens block_at lib.Utf8.encode Rattle.std.specs.Fmt.digits
no_bound_instance = refl

-- the first instance fixes the binder: the other sum stays
-- (a b c : ℕ) : a + 0 + (b + 0) = c
--     rw [add_zero]
first_instance_alone : played (goal (var (codes "a") true ∷ var (codes "b") true ∷ var (codes "c") true ∷ []) [] (eq (plus (plus (free 0) nought) (plus (free 1) nought)) (free 2))) (codes "rw [add_zero]") ≡ Open ((goal (var (codes "a") true ∷ var (codes "b") true ∷ var (codes "c") true ∷ []) [] (eq (plus (free 0) (plus (free 1) nought)) (free 2))) ∷ [])
unfolding run new_goals gives entries_of_tokens block_at lib.Utf8.encode Rattle.std.specs.Fmt.digits
first_instance_alone = refl

-- a side that is a binder alone is no pattern
-- (a b c : ℕ) : a + 0 + (b + 0) = c
--     rw [← add_zero]
bare_pattern : played (goal (var (codes "a") true ∷ var (codes "b") true ∷ var (codes "c") true ∷ []) [] (eq (plus (plus (free 0) nought) (plus (free 1) nought)) (free 2))) (codes "rw [← add_zero]") ≡ stopped 0 0 BarePattern ((goal (var (codes "a") true ∷ var (codes "b") true ∷ var (codes "c") true ∷ []) [] (eq (plus (plus (free 0) nought) (plus (free 1) nought)) (free 2))) ∷ [])
unfolding run new_goals gives entries_of_tokens block_at lib.Utf8.encode Rattle.std.specs.Fmt.digits
bare_pattern = refl

-- with its argument it is one; every occurrence becomes the new term
-- (a b c : ℕ) : a + 0 + (b + 0) = c
--     rw [add_zero, ← add_zero c]
given_argument : played (goal (var (codes "a") true ∷ var (codes "b") true ∷ var (codes "c") true ∷ []) [] (eq (plus (plus (free 0) nought) (plus (free 1) nought)) (free 2))) (codes "rw [add_zero, ← add_zero c]") ≡ Open ((goal (var (codes "a") true ∷ var (codes "b") true ∷ var (codes "c") true ∷ []) [] (eq (plus (free 0) (plus (free 1) nought)) (plus (free 2) nought))) ∷ [])
unfolding run new_goals gives entries_of_tokens block_at lib.Utf8.encode Rattle.std.specs.Fmt.digits
given_argument = refl

-- an empty script leaves the goal
-- (a b c : ℕ) : a + (b + c) = a + b + c
no_item : played (goal (var (codes "a") true ∷ var (codes "b") true ∷ var (codes "c") true ∷ []) [] (eq (plus (free 0) (plus (free 1) (free 2))) (plus (plus (free 0) (free 1)) (free 2)))) (codes "") ≡ Open ((goal (var (codes "a") true ∷ var (codes "b") true ∷ var (codes "c") true ∷ []) [] (eq (plus (free 0) (plus (free 1) (free 2))) (plus (plus (free 0) (free 1)) (free 2)))) ∷ [])
unfolding run new_goals gives entries_of_tokens block_at lib.Utf8.encode Rattle.std.specs.Fmt.digits
no_item = refl

-- each rewriting doubles the target, `x` in the hypothesis stays
-- (x : ℕ) (h : x = x + x) : x = succ x
--     rw [h]
--     rw [h]
--     rw [h]
doubled : played (goal (var (codes "x") true ∷ []) ((hyp (codes "h") (eq (free 0) (plus (free 0) (free 0))) true) ∷ []) (eq (free 0) (succ (free 0)))) (codes "rw [h]\nrw [h]\nrw [h]") ≡ Open ((goal (var (codes "x") true ∷ []) ((hyp (codes "h") (eq (free 0) (plus (free 0) (free 0))) true) ∷ []) (eq (plus (plus (plus (free 0) (free 0)) (plus (free 0) (free 0))) (plus (plus (free 0) (free 0)) (plus (free 0) (free 0)))) (succ (plus (plus (plus (free 0) (free 0)) (plus (free 0) (free 0))) (plus (plus (free 0) (free 0)) (plus (free 0) (free 0))))))) ∷ [])
unfolding run new_goals gives entries_of_tokens block_at lib.Utf8.encode Rattle.std.specs.Fmt.digits
doubled = refl

-- the hypothesis that holds `n` is carried: it stands in `hd`, and its copies come last
-- (n : ℕ) (h : n = 0) : 0 + n = 0
--     induction n with d hd
carried : played (goal (var (codes "n") true ∷ []) ((hyp (codes "h") (eq (free 0) nought) true) ∷ []) (eq (plus nought (free 0)) nought)) (codes "induction n with d hd") ≡ Open ((goal (var (codes "n") false ∷ []) ((hyp (codes "h") (eq (free 0) nought) false) ∷ (hyp (codes "h") (eq nought nought) true) ∷ []) (eq (plus nought nought) nought)) ∷ (goal (var (codes "n") false ∷ var (codes "d") true ∷ []) ((hyp (codes "h") (eq (free 0) nought) false) ∷ (hyp (codes "hd") (imp (eq (free 1) nought) (eq (plus nought (free 1)) nought)) true) ∷ (hyp (codes "h") (eq (succ (free 1)) nought) true) ∷ []) (eq (plus nought (succ (free 1))) nought)) ∷ [])
unfolding run new_goals gives entries_of_tokens block_at lib.Utf8.encode Rattle.std.specs.Fmt.digits
carried = refl

-- `apply` makes a goal of the antecedent
-- (a b : ℕ) (h : succ a = succ b) : a = b
--     apply succ_inj
--     exact h
backward : played (goal (var (codes "a") true ∷ var (codes "b") true ∷ []) ((hyp (codes "h") (eq (succ (free 0)) (succ (free 1))) true) ∷ []) (eq (free 0) (free 1))) (codes "apply succ_inj\nexact h") ≡ Closed
unfolding run new_goals gives entries_of_tokens block_at lib.Utf8.encode Rattle.std.specs.Fmt.digits
backward = refl

-- a binder that the pattern does not hold is not fixed
-- (h : ∀ x, 0 = x) : 0 = 0
--     rw [h]
unfixed : played (goal [] ((hyp (codes "h") (all (codes "x") (eq nought (bound 0))) true) ∷ []) (eq nought nought)) (codes "rw [h]") ≡ stopped 0 0 (Undetermined (codes "x")) ((goal [] ((hyp (codes "h") (all (codes "x") (eq nought (bound 0))) true) ∷ []) (eq nought nought)) ∷ [])
unfolding run new_goals gives entries_of_tokens block_at lib.Utf8.encode Rattle.std.specs.Fmt.digits
unfixed = refl
