-- Scripts with `apply`, `rw`, `induction` and blocks, run from their texts.
use Rattle.std.proofs.Common.{◌≡◌, [], ◌∷◌, true, false, refl}
use Rattle.std.specs.Prelude.{codes}
use Rattle.pg_logic.specs.Tree.{free, bound, nought, succ, eq, and, imp, all}
use Rattle.pg_script.specs.Scripts.{entries_of_tokens}
use Rattle.pg_script.specs.Blocks.{block_at}
use Rattle.pg_moves.specs.Causes.{NoSuchTactic, NoSuchName, WrongShape, NoInstance, Undetermined, NameTaken, NoGoal, WrongArgument, LeftOpen, Syntax}
use Rattle.pg_moves.specs.Expressions.{gives}
use Rattle.pg_moves.specs.Steps.{new_goals}
use Rattle.pg_moves.specs.Runs.{Closed, Open, run}
use Rattle.pg_moves.proofs.Playing.{var, hyp, goal, stopped, plus, played}

-- the target fixes both binders, crosswise
-- (a b : ℕ) (h : ∀ x y, x = y → y = x) : a = b
--     apply h
apply_swaps : played (goal (var (codes "a") true ∷ var (codes "b") true ∷ []) ((hyp (codes "h") (all (codes "x") (all (codes "y") (imp (eq (bound 1) (bound 0)) (eq (bound 0) (bound 1))))) true) ∷ []) (eq (free 0) (free 1))) (codes "apply h") ≡ Open ((goal (var (codes "a") true ∷ var (codes "b") true ∷ []) ((hyp (codes "h") (all (codes "x") (all (codes "y") (imp (eq (bound 1) (bound 0)) (eq (bound 0) (bound 1))))) true) ∷ []) (eq (free 1) (free 0))) ∷ [])
unfolding run new_goals gives entries_of_tokens block_at lib.Utf8.encode Rattle.std.specs.Fmt.digits
apply_swaps = refl

-- a stripped binder that nothing fixes
-- (a b : ℕ) (h : ∀ x, a = a → b = b) : b = b
--     apply h
apply_unfixed : played (goal (var (codes "a") true ∷ var (codes "b") true ∷ []) ((hyp (codes "h") (all (codes "x") (imp (eq (free 0) (free 0)) (eq (free 1) (free 1)))) true) ∷ []) (eq (free 1) (free 1))) (codes "apply h") ≡ stopped 0 0 (Undetermined (codes "x")) ((goal (var (codes "a") true ∷ var (codes "b") true ∷ []) ((hyp (codes "h") (all (codes "x") (imp (eq (free 0) (free 0)) (eq (free 1) (free 1)))) true) ∷ []) (eq (free 1) (free 1))) ∷ [])
unfolding run new_goals gives entries_of_tokens block_at lib.Utf8.encode Rattle.std.specs.Fmt.digits
apply_unfixed = refl

-- forward in a hypothesis, which dies
-- (a b : ℕ) (h : ∀ x, x = a → x = b) (g : b = a) : b = b
--     apply h at g
--     exact g
apply_at : played (goal (var (codes "a") true ∷ var (codes "b") true ∷ []) ((hyp (codes "h") (all (codes "x") (imp (eq (bound 0) (free 0)) (eq (bound 0) (free 1)))) true) ∷ (hyp (codes "g") (eq (free 1) (free 0)) true) ∷ []) (eq (free 1) (free 1))) (codes "apply h at g\nexact g") ≡ Closed
unfolding run new_goals gives entries_of_tokens block_at lib.Utf8.encode Rattle.std.specs.Fmt.digits
apply_at = refl

-- the second binder is not fixed
-- (a b : ℕ) (h : ∀ x y, x = a → x = b) (g : b = a) : b = b
--     apply h at g
apply_at_unfixed : played (goal (var (codes "a") true ∷ var (codes "b") true ∷ []) ((hyp (codes "h") (all (codes "x") (all (codes "y") (imp (eq (bound 1) (free 0)) (eq (bound 1) (free 1))))) true) ∷ (hyp (codes "g") (eq (free 1) (free 0)) true) ∷ []) (eq (free 1) (free 1))) (codes "apply h at g") ≡ stopped 0 0 (Undetermined (codes "y")) ((goal (var (codes "a") true ∷ var (codes "b") true ∷ []) ((hyp (codes "h") (all (codes "x") (all (codes "y") (imp (eq (bound 1) (free 0)) (eq (bound 1) (free 1))))) true) ∷ (hyp (codes "g") (eq (free 1) (free 0)) true) ∷ []) (eq (free 1) (free 1))) ∷ [])
unfolding run new_goals gives entries_of_tokens block_at lib.Utf8.encode Rattle.std.specs.Fmt.digits
apply_at_unfixed = refl

-- the hypothesis is no instance of the antecedent
-- (a b : ℕ) (h : ∀ x, x = a → x = b) (g : b = b) : b = b
--     apply h at g
apply_at_no_instance : played (goal (var (codes "a") true ∷ var (codes "b") true ∷ []) ((hyp (codes "h") (all (codes "x") (imp (eq (bound 0) (free 0)) (eq (bound 0) (free 1)))) true) ∷ (hyp (codes "g") (eq (free 1) (free 1)) true) ∷ []) (eq (free 1) (free 1))) (codes "apply h at g") ≡ stopped 0 0 NoInstance ((goal (var (codes "a") true ∷ var (codes "b") true ∷ []) ((hyp (codes "h") (all (codes "x") (imp (eq (bound 0) (free 0)) (eq (bound 0) (free 1)))) true) ∷ (hyp (codes "g") (eq (free 1) (free 1)) true) ∷ []) (eq (free 1) (free 1))) ∷ [])
unfolding run new_goals gives entries_of_tokens block_at lib.Utf8.encode Rattle.std.specs.Fmt.digits
apply_at_no_instance = refl

-- no antecedent
-- (a b : ℕ) (h : a = b) (g : b = b) : a = b
--     apply h at g
apply_at_shape : played (goal (var (codes "a") true ∷ var (codes "b") true ∷ []) ((hyp (codes "h") (eq (free 0) (free 1)) true) ∷ (hyp (codes "g") (eq (free 1) (free 1)) true) ∷ []) (eq (free 0) (free 1))) (codes "apply h at g") ≡ stopped 0 0 WrongShape ((goal (var (codes "a") true ∷ var (codes "b") true ∷ []) ((hyp (codes "h") (eq (free 0) (free 1)) true) ∷ (hyp (codes "g") (eq (free 1) (free 1)) true) ∷ []) (eq (free 0) (free 1))) ∷ [])
unfolding run new_goals gives entries_of_tokens block_at lib.Utf8.encode Rattle.std.specs.Fmt.digits
apply_at_shape = refl

-- the rest is the target up to the name of its binder; two antecedents are two goals
-- (a b : ℕ) (h : a = a → b = b → (∀ x, x = x)) : ∀ y, y = y
--     apply h
--     · rfl
--     · rfl
apply_binder_names : played (goal (var (codes "a") true ∷ var (codes "b") true ∷ []) ((hyp (codes "h") (imp (eq (free 0) (free 0)) (imp (eq (free 1) (free 1)) (all (codes "x") (eq (bound 0) (bound 0))))) true) ∷ []) (all (codes "y") (eq (bound 0) (bound 0)))) (codes "apply h\n· rfl\n· rfl") ≡ Closed
unfolding run new_goals gives entries_of_tokens block_at lib.Utf8.encode Rattle.std.specs.Fmt.digits
apply_binder_names = refl

-- replaced under a binder
-- (a b : ℕ) (h : a = b) : ∀ x, a + x = x
--     rw [h]
rw_under_binder : played (goal (var (codes "a") true ∷ var (codes "b") true ∷ []) ((hyp (codes "h") (eq (free 0) (free 1)) true) ∷ []) (all (codes "x") (eq (plus (free 0) (bound 0)) (bound 0)))) (codes "rw [h]") ≡ Open ((goal (var (codes "a") true ∷ var (codes "b") true ∷ []) ((hyp (codes "h") (eq (free 0) (free 1)) true) ∷ []) (all (codes "x") (eq (plus (free 1) (bound 0)) (bound 0)))) ∷ [])
unfolding run new_goals gives entries_of_tokens block_at lib.Utf8.encode Rattle.std.specs.Fmt.digits
rw_under_binder = refl

-- rewritten in a hypothesis, which dies
-- (a b : ℕ) (h : a = b) (g : a = a) : b = b
--     rw [h] at g
--     exact g
rw_at : played (goal (var (codes "a") true ∷ var (codes "b") true ∷ []) ((hyp (codes "h") (eq (free 0) (free 1)) true) ∷ (hyp (codes "g") (eq (free 0) (free 0)) true) ∷ []) (eq (free 1) (free 1))) (codes "rw [h] at g\nexact g") ≡ Closed
unfolding run new_goals gives entries_of_tokens block_at lib.Utf8.encode Rattle.std.specs.Fmt.digits
rw_at = refl

-- no equation
-- (a b : ℕ) (h : a = b ∧ a = b) : b = b
--     rw [h]
rw_shape : played (goal (var (codes "a") true ∷ var (codes "b") true ∷ []) ((hyp (codes "h") (and (eq (free 0) (free 1)) (eq (free 0) (free 1))) true) ∷ []) (eq (free 1) (free 1))) (codes "rw [h]") ≡ stopped 0 0 WrongShape ((goal (var (codes "a") true ∷ var (codes "b") true ∷ []) ((hyp (codes "h") (and (eq (free 0) (free 1)) (eq (free 0) (free 1))) true) ∷ []) (eq (free 1) (free 1))) ∷ [])
unfolding run new_goals gives entries_of_tokens block_at lib.Utf8.encode Rattle.std.specs.Fmt.digits
rw_shape = refl

-- no such hypothesis
-- (a b : ℕ) (h : a = b) : b = b
--     rw [h] at k
rw_at_nothing : played (goal (var (codes "a") true ∷ var (codes "b") true ∷ []) ((hyp (codes "h") (eq (free 0) (free 1)) true) ∷ []) (eq (free 1) (free 1))) (codes "rw [h] at k") ≡ stopped 0 0 (NoSuchName 10) ((goal (var (codes "a") true ∷ var (codes "b") true ∷ []) ((hyp (codes "h") (eq (free 0) (free 1)) true) ∷ []) (eq (free 1) (free 1))) ∷ [])
unfolding run new_goals gives entries_of_tokens block_at lib.Utf8.encode Rattle.std.specs.Fmt.digits
rw_at_nothing = refl

-- two rules, a part each; the second takes the first instance in preorder
-- (a b : ℕ) : a + succ b + succ b = 0
--     rw [add_succ a b, add_succ]
rw_two : played (goal (var (codes "a") true ∷ var (codes "b") true ∷ []) [] (eq (plus (plus (free 0) (succ (free 1))) (succ (free 1))) nought)) (codes "rw [add_succ a b, add_succ]") ≡ Open ((goal (var (codes "a") true ∷ var (codes "b") true ∷ []) [] (eq (succ (plus (succ (plus (free 0) (free 1))) (free 1))) nought)) ∷ [])
unfolding run new_goals gives entries_of_tokens block_at lib.Utf8.encode Rattle.std.specs.Fmt.digits
rw_two = refl

-- the name of the dead variable is free, that of a carried hypothesis is not
-- (a n : ℕ) (h : a = n) (g : a = 0) (k : n = n) : a + n = n
--     induction n with n k
induction_names : played (goal (var (codes "a") true ∷ var (codes "n") true ∷ []) ((hyp (codes "h") (eq (free 0) (free 1)) true) ∷ (hyp (codes "g") (eq (free 0) nought) true) ∷ (hyp (codes "k") (eq (free 1) (free 1)) true) ∷ []) (eq (plus (free 0) (free 1)) (free 1))) (codes "induction n with n k") ≡ stopped 0 0 (NameTaken (codes "k")) ((goal (var (codes "a") true ∷ var (codes "n") true ∷ []) ((hyp (codes "h") (eq (free 0) (free 1)) true) ∷ (hyp (codes "g") (eq (free 0) nought) true) ∷ (hyp (codes "k") (eq (free 1) (free 1)) true) ∷ []) (eq (plus (free 0) (free 1)) (free 1))) ∷ [])
unfolding run new_goals gives entries_of_tokens block_at lib.Utf8.encode Rattle.std.specs.Fmt.digits
induction_names = refl

-- no hypothesis of induction; the carried one has a copy
-- (a n : ℕ) (h : a = n) : a + n = n
--     cases n
cases_variable : played (goal (var (codes "a") true ∷ var (codes "n") true ∷ []) ((hyp (codes "h") (eq (free 0) (free 1)) true) ∷ []) (eq (plus (free 0) (free 1)) (free 1))) (codes "cases n") ≡ Open ((goal (var (codes "a") true ∷ var (codes "n") false ∷ []) ((hyp (codes "h") (eq (free 0) (free 1)) false) ∷ (hyp (codes "h") (eq (free 0) nought) true) ∷ []) (eq (plus (free 0) nought) nought)) ∷ (goal (var (codes "a") true ∷ var (codes "n") false ∷ var (codes "d") true ∷ []) ((hyp (codes "h") (eq (free 0) (free 1)) false) ∷ (hyp (codes "h") (eq (free 0) (succ (free 2))) true) ∷ []) (eq (plus (free 0) (succ (free 2))) (succ (free 2)))) ∷ [])
unfolding run new_goals gives entries_of_tokens block_at lib.Utf8.encode Rattle.std.specs.Fmt.digits
cases_variable = refl

-- it wants one name
-- (a n : ℕ) (h : a = n) : a + n = n
--     cases n with d hd
cases_variable_names : played (goal (var (codes "a") true ∷ var (codes "n") true ∷ []) ((hyp (codes "h") (eq (free 0) (free 1)) true) ∷ []) (eq (plus (free 0) (free 1)) (free 1))) (codes "cases n with d hd") ≡ stopped 0 0 (WrongArgument 15) ((goal (var (codes "a") true ∷ var (codes "n") true ∷ []) ((hyp (codes "h") (eq (free 0) (free 1)) true) ∷ []) (eq (plus (free 0) (free 1)) (free 1))) ∷ [])
unfolding run new_goals gives entries_of_tokens block_at lib.Utf8.encode Rattle.std.specs.Fmt.digits
cases_variable_names = refl

-- a hypothesis has the wrong shape
-- (a n : ℕ) (h : a = n) : a + n = n
--     induction h
induction_hypothesis : played (goal (var (codes "a") true ∷ var (codes "n") true ∷ []) ((hyp (codes "h") (eq (free 0) (free 1)) true) ∷ []) (eq (plus (free 0) (free 1)) (free 1))) (codes "induction h") ≡ stopped 0 0 WrongShape ((goal (var (codes "a") true ∷ var (codes "n") true ∷ []) ((hyp (codes "h") (eq (free 0) (free 1)) true) ∷ []) (eq (plus (free 0) (free 1)) (free 1))) ∷ [])
unfolding run new_goals gives entries_of_tokens block_at lib.Utf8.encode Rattle.std.specs.Fmt.digits
induction_hypothesis = refl

-- no such name
-- (a n : ℕ) (h : a = n) : a + n = n
--     induction m
induction_nothing : played (goal (var (codes "a") true ∷ var (codes "n") true ∷ []) ((hyp (codes "h") (eq (free 0) (free 1)) true) ∷ []) (eq (plus (free 0) (free 1)) (free 1))) (codes "induction m") ≡ stopped 0 0 (NoSuchName 10) ((goal (var (codes "a") true ∷ var (codes "n") true ∷ []) ((hyp (codes "h") (eq (free 0) (free 1)) true) ∷ []) (eq (plus (free 0) (free 1)) (free 1))) ∷ [])
unfolding run new_goals gives entries_of_tokens block_at lib.Utf8.encode Rattle.std.specs.Fmt.digits
induction_nothing = refl

-- `d` is free again, `hd` is made fresh
-- (d hd : ℕ) : d = hd
--     induction d
induction_defaults : played (goal (var (codes "d") true ∷ var (codes "hd") true ∷ []) [] (eq (free 0) (free 1))) (codes "induction d") ≡ Open ((goal (var (codes "d") false ∷ var (codes "hd") true ∷ []) [] (eq nought (free 1))) ∷ (goal (var (codes "d") false ∷ var (codes "hd") true ∷ var (codes "d") true ∷ []) ((hyp (codes "hd1") (eq (free 2) (free 1)) true) ∷ []) (eq (succ (free 2)) (free 1))) ∷ [])
unfolding run new_goals gives entries_of_tokens block_at lib.Utf8.encode Rattle.std.specs.Fmt.digits
induction_defaults = refl

-- a whole proof by induction
-- (n : ℕ) : 0 + n = n
--     induction n with d hd
--     · rw [add_zero]
--       rfl
--     · rw [add_succ, hd]
--       rfl
induction_whole : played (goal (var (codes "n") true ∷ []) [] (eq (plus nought (free 0)) (free 0))) (codes "induction n with d hd\n· rw [add_zero]\n  rfl\n· rw [add_succ, hd]\n  rfl\n") ≡ Closed
unfolding run new_goals gives entries_of_tokens block_at lib.Utf8.encode Rattle.std.specs.Fmt.digits
induction_whole = refl

-- no goal is left
-- : 0 = 0
--     rfl
--     rfl
no_goal : played (goal [] [] (eq nought nought)) (codes "rfl\nrfl") ≡ stopped 1 0 NoGoal []
unfolding run new_goals gives entries_of_tokens block_at lib.Utf8.encode Rattle.std.specs.Fmt.digits
no_goal = refl

-- a stop in a bullet has the goals of its block
-- : 0 = 0 ∧ 0 = 0
--     constructor
--     · constructor
stop_in_bullet : played (goal [] [] (and (eq nought nought) (eq nought nought))) (codes "constructor\n· constructor") ≡ stopped 2 0 WrongShape ((goal [] [] (eq nought nought)) ∷ [])
unfolding run new_goals gives entries_of_tokens block_at lib.Utf8.encode Rattle.std.specs.Fmt.digits
stop_in_bullet = refl

-- a bullet that does not close its goal: the goals of the block around it
-- : 0 = 0 ∧ (0 = 0 ∧ 0 = 0)
--     constructor
--     · rfl
--     · constructor
--       · rfl
--       · exfalso
left_open : played (goal [] [] (and (eq nought nought) (and (eq nought nought) (eq nought nought)))) (codes "constructor\n· rfl\n· constructor\n  · rfl\n  · exfalso") ≡ stopped 7 0 (LeftOpen 1) ((goal [] [] (eq nought nought)) ∷ [])
unfolding run new_goals gives entries_of_tokens block_at lib.Utf8.encode Rattle.std.specs.Fmt.digits
left_open = refl

-- an unknown word takes its item along
-- : 0 = 0
--     foo bar
no_such_move : played (goal [] [] (eq nought nought)) (codes "foo bar") ≡ stopped 0 0 (NoSuchTactic (codes "foo")) ((goal [] [] (eq nought nought)) ∷ [])
unfolding run new_goals gives entries_of_tokens block_at lib.Utf8.encode Rattle.std.specs.Fmt.digits
no_such_move = refl

-- a script that is at fault does not run
-- : 0 = 0
--     rfl )
broken : played (goal [] [] (eq nought nought)) (codes "rfl )") ≡ stopped 0 0 (Syntax 4) []
unfolding run new_goals gives entries_of_tokens block_at lib.Utf8.encode Rattle.std.specs.Fmt.digits
broken = refl

-- a bullet without a goal
-- : 0 = 0
--     rfl
--     · rfl
bullet_without_goal : played (goal [] [] (eq nought nought)) (codes "rfl\n· rfl") ≡ stopped 1 0 NoGoal []
unfolding run new_goals gives entries_of_tokens block_at lib.Utf8.encode Rattle.std.specs.Fmt.digits
bullet_without_goal = refl

-- a token's fault
-- : 0 = 0
--     exact $
broken_token : played (goal [] [] (eq nought nought)) (codes "exact $") ≡ stopped 0 0 (Syntax 6) []
unfolding run new_goals gives entries_of_tokens block_at lib.Utf8.encode Rattle.std.specs.Fmt.digits
broken_token = refl

-- `have` in a bullet, and the goal behind it
-- : 0 = 0 ∧ 0 = 0
--     constructor
--     · have h : 0 = 0
--       · rfl
--       exact h
--     rfl
have_in_bullet : played (goal [] [] (and (eq nought nought) (eq nought nought))) (codes "constructor\n· have h : 0 = 0\n  · rfl\n  exact h\nrfl") ≡ Closed
unfolding run new_goals gives entries_of_tokens block_at lib.Utf8.encode Rattle.std.specs.Fmt.digits
have_in_bullet = refl
