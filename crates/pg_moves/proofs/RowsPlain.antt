-- Scripts with moves on the form of the target and of hypotheses, run from their texts.
use Rattle.std.proofs.Common.{◌≡◌, [], ◌∷◌, true, false, refl}
use Rattle.std.specs.Prelude.{codes}
use Rattle.pg_logic.specs.Tree.{free, bound, nought, succ, falsum, eq, and, or, imp, all, ex}
use Rattle.pg_script.specs.Scripts.{entries_of_tokens}
use Rattle.pg_script.specs.Blocks.{block_at}
use Rattle.pg_moves.specs.Causes.{NoSuchName, LockedTheorem, SidesDiffer, WrongShape, NameTaken, WrongArgument, NotSame}
use Rattle.pg_moves.specs.Expressions.{gives}
use Rattle.pg_moves.specs.Steps.{new_goals}
use Rattle.pg_moves.specs.Runs.{Closed, Open, run}
use Rattle.pg_moves.proofs.Playing.{var, hyp, goal, stopped, plus, played}

-- the same term on both sides
-- : 0 = 0
--     rfl
rfl_closes : played (goal [] [] (eq nought nought)) (codes "rfl") ≡ Closed
unfolding run new_goals gives entries_of_tokens block_at lib.Utf8.encode Rattle.std.specs.Fmt.digits
rfl_closes = refl

-- the sides differ
-- (a b : ℕ) : a = b
--     rfl
rfl_differs : played (goal (var (codes "a") true ∷ var (codes "b") true ∷ []) [] (eq (free 0) (free 1))) (codes "rfl") ≡ stopped 0 0 (SidesDiffer (free 0) (free 1)) ((goal (var (codes "a") true ∷ var (codes "b") true ∷ []) [] (eq (free 0) (free 1))) ∷ [])
unfolding run new_goals gives entries_of_tokens block_at lib.Utf8.encode Rattle.std.specs.Fmt.digits
rfl_differs = refl

-- the target is no equation
-- (a : ℕ) : a = a ∧ a = a
--     rfl
rfl_shape : played (goal (var (codes "a") true ∷ []) [] (and (eq (free 0) (free 0)) (eq (free 0) (free 0)))) (codes "rfl") ≡ stopped 0 0 WrongShape ((goal (var (codes "a") true ∷ []) [] (and (eq (free 0) (free 0)) (eq (free 0) (free 0)))) ∷ [])
unfolding run new_goals gives entries_of_tokens block_at lib.Utf8.encode Rattle.std.specs.Fmt.digits
rfl_shape = refl

-- a hypothesis that is the target
-- (a : ℕ) (h : a = 0) : a = 0
--     exact h
exact_hypothesis : played (goal (var (codes "a") true ∷ []) ((hyp (codes "h") (eq (free 0) nought) true) ∷ []) (eq (free 0) nought)) (codes "exact h") ≡ Closed
unfolding run new_goals gives entries_of_tokens block_at lib.Utf8.encode Rattle.std.specs.Fmt.digits
exact_hypothesis = refl

-- another formula: it is told
-- (a : ℕ) (h : a = 0) : 0 = a
--     exact h
exact_other : played (goal (var (codes "a") true ∷ []) ((hyp (codes "h") (eq (free 0) nought) true) ∷ []) (eq nought (free 0))) (codes "exact h") ≡ stopped 0 0 (NotSame (eq (free 0) nought)) ((goal (var (codes "a") true ∷ []) ((hyp (codes "h") (eq (free 0) nought) true) ∷ []) (eq nought (free 0))) ∷ [])
unfolding run new_goals gives entries_of_tokens block_at lib.Utf8.encode Rattle.std.specs.Fmt.digits
exact_other = refl

-- a theorem that is not available
-- (a : ℕ) : 0 = succ a → False
--     exact zero_ne_succ a
exact_locked : played (goal (var (codes "a") true ∷ []) [] (imp (eq nought (succ (free 0))) falsum)) (codes "exact zero_ne_succ a") ≡ stopped 0 0 (LockedTheorem 1) ((goal (var (codes "a") true ∷ []) [] (imp (eq nought (succ (free 0))) falsum)) ∷ [])
unfolding run new_goals gives entries_of_tokens block_at lib.Utf8.encode Rattle.std.specs.Fmt.digits
exact_locked = refl

-- an argument in parentheses is read as a term
-- (a : ℕ) : a + 0 = a
--     exact add_zero (a)
exact_term : played (goal (var (codes "a") true ∷ []) [] (eq (plus (free 0) nought) (free 0))) (codes "exact add_zero (a)") ≡ Closed
unfolding run new_goals gives entries_of_tokens block_at lib.Utf8.encode Rattle.std.specs.Fmt.digits
exact_term = refl

-- parentheses around the whole; an argument is an expression
-- (a b : ℕ) (h : succ a = succ b) : a = b
--     exact (succ_inj a b h)
exact_enclosed : played (goal (var (codes "a") true ∷ var (codes "b") true ∷ []) ((hyp (codes "h") (eq (succ (free 0)) (succ (free 1))) true) ∷ []) (eq (free 0) (free 1))) (codes "exact (succ_inj a b h)") ≡ Closed
unfolding run new_goals gives entries_of_tokens block_at lib.Utf8.encode Rattle.std.specs.Fmt.digits
exact_enclosed = refl

-- an argument too many, within an argument: its own place
-- (a b : ℕ) (h : succ a = succ b) : a = b
--     exact succ_inj a b (h a)
exact_too_many : played (goal (var (codes "a") true ∷ var (codes "b") true ∷ []) ((hyp (codes "h") (eq (succ (free 0)) (succ (free 1))) true) ∷ []) (eq (free 0) (free 1))) (codes "exact succ_inj a b (h a)") ≡ stopped 0 0 (WrongArgument 22) ((goal (var (codes "a") true ∷ var (codes "b") true ∷ []) ((hyp (codes "h") (eq (succ (free 0)) (succ (free 1))) true) ∷ []) (eq (free 0) (free 1))) ∷ [])
unfolding run new_goals gives entries_of_tokens block_at lib.Utf8.encode Rattle.std.specs.Fmt.digits
exact_too_many = refl

-- an argument that is no term
-- (a b : ℕ) (h : succ a = succ b) : a = b
--     exact succ_inj a (b +) h
exact_no_term : played (goal (var (codes "a") true ∷ var (codes "b") true ∷ []) ((hyp (codes "h") (eq (succ (free 0)) (succ (free 1))) true) ∷ []) (eq (free 0) (free 1))) (codes "exact succ_inj a (b +) h") ≡ stopped 0 0 (WrongArgument 17) ((goal (var (codes "a") true ∷ var (codes "b") true ∷ []) ((hyp (codes "h") (eq (succ (free 0)) (succ (free 1))) true) ∷ []) (eq (free 0) (free 1))) ∷ [])
unfolding run new_goals gives entries_of_tokens block_at lib.Utf8.encode Rattle.std.specs.Fmt.digits
exact_no_term = refl

-- no such name, before its arguments
-- (a b : ℕ) (h : succ a = succ b) : a = b
--     exact foo a
exact_no_name : played (goal (var (codes "a") true ∷ var (codes "b") true ∷ []) ((hyp (codes "h") (eq (succ (free 0)) (succ (free 1))) true) ∷ []) (eq (free 0) (free 1))) (codes "exact foo a") ≡ stopped 0 0 (NoSuchName 6) ((goal (var (codes "a") true ∷ var (codes "b") true ∷ []) ((hyp (codes "h") (eq (succ (free 0)) (succ (free 1))) true) ∷ []) (eq (free 0) (free 1))) ∷ [])
unfolding run new_goals gives entries_of_tokens block_at lib.Utf8.encode Rattle.std.specs.Fmt.digits
exact_no_name = refl

-- a number is no expression
-- (a b : ℕ) (h : succ a = succ b) : a = b
--     exact succ_inj a b 0
exact_no_expression : played (goal (var (codes "a") true ∷ var (codes "b") true ∷ []) ((hyp (codes "h") (eq (succ (free 0)) (succ (free 1))) true) ∷ []) (eq (free 0) (free 1))) (codes "exact succ_inj a b 0") ≡ stopped 0 0 (WrongArgument 19) ((goal (var (codes "a") true ∷ var (codes "b") true ∷ []) ((hyp (codes "h") (eq (succ (free 0)) (succ (free 1))) true) ∷ []) (eq (free 0) (free 1))) ∷ [])
unfolding run new_goals gives entries_of_tokens block_at lib.Utf8.encode Rattle.std.specs.Fmt.digits
exact_no_expression = refl

-- two variables and a hypothesis, a part each
-- : ∀ a b, a = b → a = b
--     intro x y h
--     exact h
intro_several : played (goal [] [] (all (codes "a") (all (codes "b") (imp (eq (bound 1) (bound 0)) (eq (bound 1) (bound 0)))))) (codes "intro x y h\nexact h") ≡ Closed
unfolding run new_goals gives entries_of_tokens block_at lib.Utf8.encode Rattle.std.specs.Fmt.digits
intro_several = refl

-- the name of a live variable
-- (a : ℕ) : ∀ x, x = a
--     intro a
intro_live : played (goal (var (codes "a") true ∷ []) [] (all (codes "x") (eq (bound 0) (free 0)))) (codes "intro a") ≡ stopped 0 0 (NameTaken (codes "a")) ((goal (var (codes "a") true ∷ []) [] (all (codes "x") (eq (bound 0) (free 0)))) ∷ [])
unfolding run new_goals gives entries_of_tokens block_at lib.Utf8.encode Rattle.std.specs.Fmt.digits
intro_live = refl

-- a reserved word
-- (a : ℕ) : ∀ x, x = a
--     intro succ
intro_reserved : played (goal (var (codes "a") true ∷ []) [] (all (codes "x") (eq (bound 0) (free 0)))) (codes "intro succ") ≡ stopped 0 0 (NameTaken (codes "succ")) ((goal (var (codes "a") true ∷ []) [] (all (codes "x") (eq (bound 0) (free 0)))) ∷ [])
unfolding run new_goals gives entries_of_tokens block_at lib.Utf8.encode Rattle.std.specs.Fmt.digits
intro_reserved = refl

-- a target of another form
-- (a : ℕ) : a = a
--     intro h
intro_shape : played (goal (var (codes "a") true ∷ []) [] (eq (free 0) (free 0))) (codes "intro h") ≡ stopped 0 0 WrongShape ((goal (var (codes "a") true ∷ []) [] (eq (free 0) (free 0))) ∷ [])
unfolding run new_goals gives entries_of_tokens block_at lib.Utf8.encode Rattle.std.specs.Fmt.digits
intro_shape = refl

-- two goals; `;` ends an item
-- (a b : ℕ) (h : a = b) : a = b ∧ b = a
--     constructor
--     · exact h
--     · symm; exact h
constructor_two : played (goal (var (codes "a") true ∷ var (codes "b") true ∷ []) ((hyp (codes "h") (eq (free 0) (free 1)) true) ∷ []) (and (eq (free 0) (free 1)) (eq (free 1) (free 0)))) (codes "constructor\n· exact h\n· symm; exact h") ≡ Closed
unfolding run new_goals gives entries_of_tokens block_at lib.Utf8.encode Rattle.std.specs.Fmt.digits
constructor_two = refl

-- two hypotheses with given names
-- (a b : ℕ) (h : a = b ∧ b = a) : b = a
--     cases h with x y
--     exact y
cases_both : played (goal (var (codes "a") true ∷ var (codes "b") true ∷ []) ((hyp (codes "h") (and (eq (free 0) (free 1)) (eq (free 1) (free 0))) true) ∷ []) (eq (free 1) (free 0))) (codes "cases h with x y\nexact y") ≡ Closed
unfolding run new_goals gives entries_of_tokens block_at lib.Utf8.encode Rattle.std.specs.Fmt.digits
cases_both = refl

-- by default they have the name of the dead one, the second made fresh
-- (a b : ℕ) (h : a = b ∧ b = a) : b = a
--     cases h
cases_both_defaults : played (goal (var (codes "a") true ∷ var (codes "b") true ∷ []) ((hyp (codes "h") (and (eq (free 0) (free 1)) (eq (free 1) (free 0))) true) ∷ []) (eq (free 1) (free 0))) (codes "cases h") ≡ Open ((goal (var (codes "a") true ∷ var (codes "b") true ∷ []) ((hyp (codes "h") (and (eq (free 0) (free 1)) (eq (free 1) (free 0))) false) ∷ (hyp (codes "h") (eq (free 0) (free 1)) true) ∷ (hyp (codes "h1") (eq (free 1) (free 0)) true) ∷ []) (eq (free 1) (free 0))) ∷ [])
unfolding run new_goals gives entries_of_tokens block_at lib.Utf8.encode Rattle.std.specs.Fmt.digits
cases_both_defaults = refl

-- two goals; the second has the default name
-- (a b : ℕ) (h : a = b ∨ b = a) : a = b
--     cases h with x
--     · exact x
--     · symm
--       exact h
cases_either : played (goal (var (codes "a") true ∷ var (codes "b") true ∷ []) ((hyp (codes "h") (or (eq (free 0) (free 1)) (eq (free 1) (free 0))) true) ∷ []) (eq (free 0) (free 1))) (codes "cases h with x\n· exact x\n· symm\n  exact h") ≡ Closed
unfolding run new_goals gives entries_of_tokens block_at lib.Utf8.encode Rattle.std.specs.Fmt.digits
cases_either = refl

-- the left side
-- (a b : ℕ) (h : a = b) : a = b ∨ b = a
--     left
--     exact h
left_side : played (goal (var (codes "a") true ∷ var (codes "b") true ∷ []) ((hyp (codes "h") (eq (free 0) (free 1)) true) ∷ []) (or (eq (free 0) (free 1)) (eq (free 1) (free 0)))) (codes "left\nexact h") ≡ Closed
unfolding run new_goals gives entries_of_tokens block_at lib.Utf8.encode Rattle.std.specs.Fmt.digits
left_side = refl

-- the right side
-- (a b : ℕ) (h : a = b) : a = b ∨ b = a
--     right
--     exact h
right_side : played (goal (var (codes "a") true ∷ var (codes "b") true ∷ []) ((hyp (codes "h") (eq (free 0) (free 1)) true) ∷ []) (or (eq (free 0) (free 1)) (eq (free 1) (free 0)))) (codes "right\nexact h") ≡ stopped 1 0 (NotSame (eq (free 0) (free 1))) ((goal (var (codes "a") true ∷ var (codes "b") true ∷ []) ((hyp (codes "h") (eq (free 0) (free 1)) true) ∷ []) (eq (free 1) (free 0))) ∷ [])
unfolding run new_goals gives entries_of_tokens block_at lib.Utf8.encode Rattle.std.specs.Fmt.digits
right_side = refl

-- a disjunction is no conjunction
-- (a b : ℕ) (h : a = b) : a = b ∨ b = a
--     constructor
constructor_shape : played (goal (var (codes "a") true ∷ var (codes "b") true ∷ []) ((hyp (codes "h") (eq (free 0) (free 1)) true) ∷ []) (or (eq (free 0) (free 1)) (eq (free 1) (free 0)))) (codes "constructor") ≡ stopped 0 0 WrongShape ((goal (var (codes "a") true ∷ var (codes "b") true ∷ []) ((hyp (codes "h") (eq (free 0) (free 1)) true) ∷ []) (or (eq (free 0) (free 1)) (eq (free 1) (free 0)))) ∷ [])
unfolding run new_goals gives entries_of_tokens block_at lib.Utf8.encode Rattle.std.specs.Fmt.digits
constructor_shape = refl

-- the variable has the name of the binder made fresh, the hypothesis that of the dead one
-- (b : ℕ) (h : ∃ b, b = succ b) : False
--     cases h
cases_some_defaults : played (goal (var (codes "b") true ∷ []) ((hyp (codes "h") (ex (codes "b") (eq (bound 0) (succ (bound 0)))) true) ∷ []) falsum) (codes "cases h") ≡ Open ((goal (var (codes "b") true ∷ var (codes "b1") true ∷ []) ((hyp (codes "h") (ex (codes "b") (eq (bound 0) (succ (bound 0)))) false) ∷ (hyp (codes "h") (eq (free 1) (succ (free 1))) true) ∷ []) falsum) ∷ [])
unfolding run new_goals gives entries_of_tokens block_at lib.Utf8.encode Rattle.std.specs.Fmt.digits
cases_some_defaults = refl

-- a term for the binder
-- (b : ℕ) : ∃ c, c = succ b
--     use succ b
--     rfl
use_term : played (goal (var (codes "b") true ∷ []) [] (ex (codes "c") (eq (bound 0) (succ (free 0))))) (codes "use succ b\nrfl") ≡ Closed
unfolding run new_goals gives entries_of_tokens block_at lib.Utf8.encode Rattle.std.specs.Fmt.digits
use_term = refl

-- the second term is none: part 1, after the first was put in
-- (b : ℕ) : ∃ c d, c = succ d
--     use b, c
use_no_term : played (goal (var (codes "b") true ∷ []) [] (ex (codes "c") (ex (codes "d") (eq (bound 1) (succ (bound 0)))))) (codes "use b, c") ≡ stopped 0 1 (WrongArgument 7) ((goal (var (codes "b") true ∷ []) [] (ex (codes "d") (eq (free 0) (succ (bound 0))))) ∷ [])
unfolding run new_goals gives entries_of_tokens block_at lib.Utf8.encode Rattle.std.specs.Fmt.digits
use_no_term = refl

-- the name of a live variable
-- (b : ℕ) (h : ∃ c, c = b) : False
--     cases h with b
cases_some_taken : played (goal (var (codes "b") true ∷ []) ((hyp (codes "h") (ex (codes "c") (eq (bound 0) (free 0))) true) ∷ []) falsum) (codes "cases h with b") ≡ stopped 0 0 (NameTaken (codes "b")) ((goal (var (codes "b") true ∷ []) ((hyp (codes "h") (ex (codes "c") (eq (bound 0) (free 0))) true) ∷ []) falsum) ∷ [])
unfolding run new_goals gives entries_of_tokens block_at lib.Utf8.encode Rattle.std.specs.Fmt.digits
cases_some_taken = refl

-- a false hypothesis closes the goal
-- (a : ℕ) (h : False) : a = 0
--     cases h
cases_false : played (goal (var (codes "a") true ∷ []) ((hyp (codes "h") falsum true) ∷ []) (eq (free 0) nought)) (codes "cases h") ≡ Closed
unfolding run new_goals gives entries_of_tokens block_at lib.Utf8.encode Rattle.std.specs.Fmt.digits
cases_false = refl

-- it wants no names
-- (a : ℕ) (h : False) : a = 0
--     cases h with x
cases_false_names : played (goal (var (codes "a") true ∷ []) ((hyp (codes "h") falsum true) ∷ []) (eq (free 0) nought)) (codes "cases h with x") ≡ stopped 0 0 (WrongArgument 13) ((goal (var (codes "a") true ∷ []) ((hyp (codes "h") falsum true) ∷ []) (eq (free 0) nought)) ∷ [])
unfolding run new_goals gives entries_of_tokens block_at lib.Utf8.encode Rattle.std.specs.Fmt.digits
cases_false_names = refl

-- the target becomes false
-- (a : ℕ) (h : False) : a = 0
--     exfalso
--     exact h
exfalso_then : played (goal (var (codes "a") true ∷ []) ((hyp (codes "h") falsum true) ∷ []) (eq (free 0) nought)) (codes "exfalso\nexact h") ≡ Closed
unfolding run new_goals gives entries_of_tokens block_at lib.Utf8.encode Rattle.std.specs.Fmt.digits
exfalso_then = refl

-- the sides of a negated equation
-- (a : ℕ) (h : 0 ≠ a) : a ≠ 0
--     symm
--     exact h
symm_not : played (goal (var (codes "a") true ∷ []) ((hyp (codes "h") (imp (eq nought (free 0)) falsum) true) ∷ []) (imp (eq (free 0) nought) falsum)) (codes "symm\nexact h") ≡ Closed
unfolding run new_goals gives entries_of_tokens block_at lib.Utf8.encode Rattle.std.specs.Fmt.digits
symm_not = refl

-- the same in a hypothesis
-- (a : ℕ) (h : 0 ≠ a) : a ≠ 0
--     symm at h
--     exact h
symm_at : played (goal (var (codes "a") true ∷ []) ((hyp (codes "h") (imp (eq nought (free 0)) falsum) true) ∷ []) (imp (eq (free 0) nought) falsum)) (codes "symm at h\nexact h") ≡ Closed
unfolding run new_goals gives entries_of_tokens block_at lib.Utf8.encode Rattle.std.specs.Fmt.digits
symm_at = refl

-- a variable is no hypothesis
-- (a : ℕ) (h : 0 ≠ a) : a = 0 ∨ a = a
--     symm at a
symm_at_variable : played (goal (var (codes "a") true ∷ []) ((hyp (codes "h") (imp (eq nought (free 0)) falsum) true) ∷ []) (or (eq (free 0) nought) (eq (free 0) (free 0)))) (codes "symm at a") ≡ stopped 0 0 (NoSuchName 8) ((goal (var (codes "a") true ∷ []) ((hyp (codes "h") (imp (eq nought (free 0)) falsum) true) ∷ []) (or (eq (free 0) nought) (eq (free 0) (free 0)))) ∷ [])
unfolding run new_goals gives entries_of_tokens block_at lib.Utf8.encode Rattle.std.specs.Fmt.digits
symm_at_variable = refl

-- the formula first, then the old goal with it
-- (a : ℕ) : a = a
--     have h : a = a
--     · rfl
--     exact h
have_formula : played (goal (var (codes "a") true ∷ []) [] (eq (free 0) (free 0))) (codes "have h : a = a\n· rfl\nexact h") ≡ Closed
unfolding run new_goals gives entries_of_tokens block_at lib.Utf8.encode Rattle.std.specs.Fmt.digits
have_formula = refl

-- the name of a live hypothesis
-- (a : ℕ) (h : a = a) : a = a
--     have h := h
have_taken : played (goal (var (codes "a") true ∷ []) ((hyp (codes "h") (eq (free 0) (free 0)) true) ∷ []) (eq (free 0) (free 0))) (codes "have h := h") ≡ stopped 0 0 (NameTaken (codes "h")) ((goal (var (codes "a") true ∷ []) ((hyp (codes "h") (eq (free 0) (free 0)) true) ∷ []) (eq (free 0) (free 0))) ∷ [])
unfolding run new_goals gives entries_of_tokens block_at lib.Utf8.encode Rattle.std.specs.Fmt.digits
have_taken = refl

-- what the expression gives is not what is said: it is told
-- (a : ℕ) (h : a = 0) : a = a
--     have g : 0 = a := h
have_other : played (goal (var (codes "a") true ∷ []) ((hyp (codes "h") (eq (free 0) nought) true) ∷ []) (eq (free 0) (free 0))) (codes "have g : 0 = a := h") ≡ stopped 0 0 (NotSame (eq (free 0) nought)) ((goal (var (codes "a") true ∷ []) ((hyp (codes "h") (eq (free 0) nought) true) ∷ []) (eq (free 0) (free 0))) ∷ [])
unfolding run new_goals gives entries_of_tokens block_at lib.Utf8.encode Rattle.std.specs.Fmt.digits
have_other = refl

-- a name that stands for nothing: no formula
-- (a : ℕ) : a = a
--     have h : b = a
have_no_formula : played (goal (var (codes "a") true ∷ []) [] (eq (free 0) (free 0))) (codes "have h : b = a") ≡ stopped 0 0 (WrongArgument 9) ((goal (var (codes "a") true ∷ []) [] (eq (free 0) (free 0))) ∷ [])
unfolding run new_goals gives entries_of_tokens block_at lib.Utf8.encode Rattle.std.specs.Fmt.digits
have_no_formula = refl

-- a variable takes along the hypotheses that hold it, in order
-- (a b : ℕ) (h : a = b) (g : b = a) : a = a
--     revert b
revert_variable : played (goal (var (codes "a") true ∷ var (codes "b") true ∷ []) ((hyp (codes "h") (eq (free 0) (free 1)) true) ∷ (hyp (codes "g") (eq (free 1) (free 0)) true) ∷ []) (eq (free 0) (free 0))) (codes "revert b") ≡ Open ((goal (var (codes "a") true ∷ var (codes "b") false ∷ []) ((hyp (codes "h") (eq (free 0) (free 1)) false) ∷ (hyp (codes "g") (eq (free 1) (free 0)) false) ∷ []) (all (codes "b") (imp (eq (free 0) (bound 0)) (imp (eq (bound 0) (free 0)) (eq (free 0) (free 0)))))) ∷ [])
unfolding run new_goals gives entries_of_tokens block_at lib.Utf8.encode Rattle.std.specs.Fmt.digits
revert_variable = refl

-- a hypothesis, then a variable, and both come back under other names
-- (a b : ℕ) (h : a = b) (g : b = a) : a = a
--     revert h; revert a; intro x y
revert_both : played (goal (var (codes "a") true ∷ var (codes "b") true ∷ []) ((hyp (codes "h") (eq (free 0) (free 1)) true) ∷ (hyp (codes "g") (eq (free 1) (free 0)) true) ∷ []) (eq (free 0) (free 0))) (codes "revert h; revert a; intro x y") ≡ Open ((goal (var (codes "a") false ∷ var (codes "b") true ∷ var (codes "x") true ∷ []) ((hyp (codes "h") (eq (free 0) (free 1)) false) ∷ (hyp (codes "g") (eq (free 1) (free 0)) false) ∷ (hyp (codes "y") (eq (free 1) (free 2)) true) ∷ []) (imp (eq (free 2) (free 1)) (eq (free 2) (free 2)))) ∷ [])
unfolding run new_goals gives entries_of_tokens block_at lib.Utf8.encode Rattle.std.specs.Fmt.digits
revert_both = refl

-- no such name
-- (a b : ℕ) (h : a = b) : a = a
--     revert x
revert_nothing : played (goal (var (codes "a") true ∷ var (codes "b") true ∷ []) ((hyp (codes "h") (eq (free 0) (free 1)) true) ∷ []) (eq (free 0) (free 0))) (codes "revert x") ≡ stopped 0 0 (NoSuchName 7) ((goal (var (codes "a") true ∷ var (codes "b") true ∷ []) ((hyp (codes "h") (eq (free 0) (free 1)) true) ∷ []) (eq (free 0) (free 0))) ∷ [])
unfolding run new_goals gives entries_of_tokens block_at lib.Utf8.encode Rattle.std.specs.Fmt.digits
revert_nothing = refl

-- a goal with the formula and one with its negation
-- (a : ℕ) : a = 0 ∨ a ≠ 0
--     by_cases h : a = 0
--     · left
--       exact h
--     · right
--       exact h
by_cases_two : played (goal (var (codes "a") true ∷ []) [] (or (eq (free 0) nought) (imp (eq (free 0) nought) falsum))) (codes "by_cases h : a = 0\n· left\n  exact h\n· right\n  exact h") ≡ Closed
unfolding run new_goals gives entries_of_tokens block_at lib.Utf8.encode Rattle.std.specs.Fmt.digits
by_cases_two = refl

-- the name of a live variable
-- (a : ℕ) : a = 0 ∨ a ≠ 0
--     by_cases a : a = 0
by_cases_taken : played (goal (var (codes "a") true ∷ []) [] (or (eq (free 0) nought) (imp (eq (free 0) nought) falsum))) (codes "by_cases a : a = 0") ≡ stopped 0 0 (NameTaken (codes "a")) ((goal (var (codes "a") true ∷ []) [] (or (eq (free 0) nought) (imp (eq (free 0) nought) falsum))) ∷ [])
unfolding run new_goals gives entries_of_tokens block_at lib.Utf8.encode Rattle.std.specs.Fmt.digits
by_cases_taken = refl
