-- Scripts over predicates, run from their texts, where `constructor` is not available.
use Rattle.std.proofs.Common.{◌≡◌, [], ◌∷◌, true, false, refl}
use Rattle.std.specs.Prelude.{codes}
use Rattle.pg_logic.specs.Tree.{free, bound, nought, eq, and, imp, all}
use Rattle.pg_script.specs.Scripts.{entries_of_tokens}
use Rattle.pg_script.specs.Blocks.{block_at}
use Rattle.pg_moves.specs.Causes.{LockedTactic, NoSuchName, WrongShape, NoInstance, NameTaken, WrongArgument}
use Rattle.pg_moves.specs.Expressions.{gives}
use Rattle.pg_moves.specs.Steps.{new_goals}
use Rattle.pg_moves.specs.Runs.{Closed, Open, run}
use Rattle.pg_moves.proofs.Playing.{var, hyp, goal, stopped, plus, at_most, low, bounded, played_in}

-- two predicates at the head, one after the other
-- (a b : ℕ) (h : a ≤ b) : low a
--     use a
--     rfl
use_unfolds : played_in bounded (goal (var (codes "a") true ∷ var (codes "b") true ∷ []) ((hyp (codes "h") (at_most (free 0) (free 1)) true) ∷ []) (low (free 0))) (codes "use a\nrfl") ≡ Closed
unfolding run new_goals gives entries_of_tokens block_at lib.Utf8.encode Rattle.std.specs.Fmt.digits
use_unfolds = refl

-- the same in a hypothesis
-- (a b : ℕ) (h : low a) : a ≤ a
--     cases h with c
cases_unfolds : played_in bounded (goal (var (codes "a") true ∷ var (codes "b") true ∷ []) ((hyp (codes "h") (low (free 0)) true) ∷ []) (at_most (free 0) (free 0))) (codes "cases h with c") ≡ Open ((goal (var (codes "a") true ∷ var (codes "b") true ∷ var (codes "c") true ∷ []) ((hyp (codes "h") (low (free 0)) false) ∷ (hyp (codes "h") (eq (plus (free 0) (free 0)) (plus (free 0) (free 2))) true) ∷ []) (at_most (free 0) (free 0))) ∷ [])
unfolding run new_goals gives entries_of_tokens block_at lib.Utf8.encode Rattle.std.specs.Fmt.digits
cases_unfolds = refl

-- `rw` unfolds nothing
-- (a b : ℕ) (h : a ≤ b) : a ≤ b
--     rw [h]
rw_unfolds_not : played_in bounded (goal (var (codes "a") true ∷ var (codes "b") true ∷ []) ((hyp (codes "h") (at_most (free 0) (free 1)) true) ∷ []) (at_most (free 0) (free 1))) (codes "rw [h]") ≡ stopped 0 0 WrongShape ((goal (var (codes "a") true ∷ var (codes "b") true ∷ []) ((hyp (codes "h") (at_most (free 0) (free 1)) true) ∷ []) (at_most (free 0) (free 1))) ∷ [])
unfolding run new_goals gives entries_of_tokens block_at lib.Utf8.encode Rattle.std.specs.Fmt.digits
rw_unfolds_not = refl

-- a predicate taken apart and put together
-- (a b : ℕ) (h : a ≤ b) : a ≤ b
--     cases h with c hc
--     use c
--     exact hc
cases_then_use : played_in bounded (goal (var (codes "a") true ∷ var (codes "b") true ∷ []) ((hyp (codes "h") (at_most (free 0) (free 1)) true) ∷ []) (at_most (free 0) (free 1))) (codes "cases h with c hc\nuse c\nexact hc") ≡ Closed
unfolding run new_goals gives entries_of_tokens block_at lib.Utf8.encode Rattle.std.specs.Fmt.digits
cases_then_use = refl

-- predicates are compared as they stand
-- (a b : ℕ) (h : a ≤ b → low b) (g : a ≤ b) : low b
--     apply h
--     exact g
apply_predicate : played_in bounded (goal (var (codes "a") true ∷ var (codes "b") true ∷ []) ((hyp (codes "h") (imp (at_most (free 0) (free 1)) (low (free 1))) true) ∷ (hyp (codes "g") (at_most (free 0) (free 1)) true) ∷ []) (low (free 1))) (codes "apply h\nexact g") ≡ Closed
unfolding run new_goals gives entries_of_tokens block_at lib.Utf8.encode Rattle.std.specs.Fmt.digits
apply_predicate = refl

-- the arguments of a predicate are rewritten
-- (a b : ℕ) (h : a = b) : b ≤ a
--     rw [h]
rw_in_predicate : played_in bounded (goal (var (codes "a") true ∷ var (codes "b") true ∷ []) ((hyp (codes "h") (eq (free 0) (free 1)) true) ∷ []) (at_most (free 1) (free 0))) (codes "rw [h]") ≡ Open ((goal (var (codes "a") true ∷ var (codes "b") true ∷ []) ((hyp (codes "h") (eq (free 0) (free 1)) true) ∷ []) (at_most (free 1) (free 1))) ∷ [])
unfolding run new_goals gives entries_of_tokens block_at lib.Utf8.encode Rattle.std.specs.Fmt.digits
rw_in_predicate = refl

-- a move that is not available, before the goal is looked at
-- : 0 = 0 ∧ 0 = 0
--     constructor
move_locked : played_in bounded (goal [] [] (and (eq nought nought) (eq nought nought))) (codes "constructor") ≡ stopped 0 0 (LockedTactic (codes "constructor")) ((goal [] [] (and (eq nought nought) (eq nought nought))) ∷ [])
unfolding run new_goals gives entries_of_tokens block_at lib.Utf8.encode Rattle.std.specs.Fmt.digits
move_locked = refl

-- another one is
-- : 0 = 0 ∧ 0 = 0
--     left
move_unlocked : played_in bounded (goal [] [] (and (eq nought nought) (eq nought nought))) (codes "left") ≡ stopped 0 0 WrongShape ((goal [] [] (and (eq nought nought) (eq nought nought))) ∷ [])
unfolding run new_goals gives entries_of_tokens block_at lib.Utf8.encode Rattle.std.specs.Fmt.digits
move_unlocked = refl

-- the name of a predicate
-- : ∀ x, x = x
--     intro low
intro_declared : played_in bounded (goal [] [] (all (codes "x") (eq (bound 0) (bound 0)))) (codes "intro low") ≡ stopped 0 0 (NameTaken (codes "low")) ((goal [] [] (all (codes "x") (eq (bound 0) (bound 0)))) ∷ [])
unfolding run new_goals gives entries_of_tokens block_at lib.Utf8.encode Rattle.std.specs.Fmt.digits
intro_declared = refl

-- the same for a variable of `induction`
-- (a b : ℕ) (h : a = b) : b ≤ a
--     induction b with low
induction_declared : played_in bounded (goal (var (codes "a") true ∷ var (codes "b") true ∷ []) ((hyp (codes "h") (eq (free 0) (free 1)) true) ∷ []) (at_most (free 1) (free 0))) (codes "induction b with low") ≡ stopped 0 0 (NameTaken (codes "low")) ((goal (var (codes "a") true ∷ var (codes "b") true ∷ []) ((hyp (codes "h") (eq (free 0) (free 1)) true) ∷ []) (at_most (free 1) (free 0))) ∷ [])
unfolding run new_goals gives entries_of_tokens block_at lib.Utf8.encode Rattle.std.specs.Fmt.digits
induction_declared = refl

-- a third name
-- (a b : ℕ) (h : a = b) : b ≤ a
--     induction b with x y z
induction_too_many : played_in bounded (goal (var (codes "a") true ∷ var (codes "b") true ∷ []) ((hyp (codes "h") (eq (free 0) (free 1)) true) ∷ []) (at_most (free 1) (free 0))) (codes "induction b with x y z") ≡ stopped 0 0 (WrongArgument 21) ((goal (var (codes "a") true ∷ var (codes "b") true ∷ []) ((hyp (codes "h") (eq (free 0) (free 1)) true) ∷ []) (at_most (free 1) (free 0))) ∷ [])
unfolding run new_goals gives entries_of_tokens block_at lib.Utf8.encode Rattle.std.specs.Fmt.digits
induction_too_many = refl

-- the names of dead variables and hypotheses are free; an equation has no argument
-- (a b : ℕ) (h : a = b) : b ≤ a
--     revert a
--     revert b
--     intro b a h
--     exact h b a
dead_names : played_in bounded (goal (var (codes "a") true ∷ var (codes "b") true ∷ []) ((hyp (codes "h") (eq (free 0) (free 1)) true) ∷ []) (at_most (free 1) (free 0))) (codes "revert a\nrevert b\nintro b a h\nexact h b a") ≡ stopped 3 0 (WrongArgument 38) ((goal (var (codes "a") false ∷ var (codes "b") false ∷ var (codes "b") true ∷ var (codes "a") true ∷ []) ((hyp (codes "h") (eq (free 0) (free 1)) false) ∷ (hyp (codes "h") (eq (free 3) (free 2)) true) ∷ []) (at_most (free 2) (free 3))) ∷ [])
unfolding run new_goals gives entries_of_tokens block_at lib.Utf8.encode Rattle.std.specs.Fmt.digits
dead_names = refl

-- the formula is read, then the expression has no such name
-- (a : ℕ) : a = a
--     have h : (∀ x, x ≤ a) := foo
have_unknown : played_in bounded (goal (var (codes "a") true ∷ []) [] (eq (free 0) (free 0))) (codes "have h : (∀ x, x ≤ a) := foo") ≡ stopped 0 0 (NoSuchName 29) ((goal (var (codes "a") true ∷ []) [] (eq (free 0) (free 0))) ∷ [])
unfolding run new_goals gives entries_of_tokens block_at lib.Utf8.encode Rattle.std.specs.Fmt.digits
have_unknown = refl

-- a sign that is not declared: no formula
-- (a : ℕ) : a = a
--     have h : ∀ x, x < a
have_undeclared : played_in bounded (goal (var (codes "a") true ∷ []) [] (eq (free 0) (free 0))) (codes "have h : ∀ x, x < a") ≡ stopped 0 0 (WrongArgument 9) ((goal (var (codes "a") true ∷ []) [] (eq (free 0) (free 0))) ∷ [])
unfolding run new_goals gives entries_of_tokens block_at lib.Utf8.encode Rattle.std.specs.Fmt.digits
have_undeclared = refl

-- what is given is what is said, up to names of binders; both rewrite
-- (a : ℕ) (h : ∀ x, x = a) : a = a
--     have g : ∀ y, y = a := h
--     rw [← g 0]
--     rw [h (0 + succ 0)]
have_binder_names : played_in bounded (goal (var (codes "a") true ∷ []) ((hyp (codes "h") (all (codes "x") (eq (bound 0) (free 0))) true) ∷ []) (eq (free 0) (free 0))) (codes "have g : ∀ y, y = a := h\nrw [← g 0]\nrw [h (0 + succ 0)]") ≡ stopped 2 0 NoInstance ((goal (var (codes "a") true ∷ []) ((hyp (codes "h") (all (codes "x") (eq (bound 0) (free 0))) true) ∷ (hyp (codes "g") (all (codes "y") (eq (bound 0) (free 0))) true) ∷ []) (eq nought nought)) ∷ [])
unfolding run new_goals gives entries_of_tokens block_at lib.Utf8.encode Rattle.std.specs.Fmt.digits
have_binder_names = refl
