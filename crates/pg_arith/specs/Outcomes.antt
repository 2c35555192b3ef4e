-- What is answered for a term that is valued step by step.
use Rattle.std.specs.Prelude.{ℕ, ◌≡◌, ◌<◌, length, List, Result, Ok, Err}
use Rattle.pg_logic.specs.Signature.{Function}
use Rattle.pg_logic.specs.Valuing.{Outcome, Got, Over, Spent, run_applied, runs_of}
use Rattle.pg_arith.specs.declared.values.ValueFault.{ValueFault}
use Rattle.pg_arith.specs.declared.values.ValueFault.TheVariants.{OverLimit, OverBudget, OutOfMemory}

-- the value, or why there is none
abbrev pub answer : {A : Type 0} → Outcome A → Result A ValueFault
answer (Got v left) = Ok v
answer (Over v) = Err (OverLimit v)
answer Spent = Err OverBudget

-- the answer is that of this run, or want of memory
abbrev pub Answers : {A : Type 0} → Outcome A → Result A ValueFault → Type 0
Answers o (Err OutOfMemory) = Unit {0}
Answers o r = answer o ≡ r

-- it is, and with a value so much of the budget is left
abbrev pub Leaves : {A : Type 0} → Outcome A → Result A ValueFault → ℕ → Type 0
Leaves o (Ok v) left = o ≡ Got v left
Leaves o (Err e) left = Answers o (Err e)

-- no function has this number: it has the value 0
abbrev pub IsUndeclared : List Function → ℕ → Type 0
IsUndeclared fs k = (limit : ℕ) (xs : List ℕ) (left : ℕ) → runs_of limit fs k xs left ≡ Got 0 left

-- this function has this number, and is over those before it
pub record IsDeclaredAt (fs : List Function) (k : ℕ) (before : List Function) (f : Function) : Type 0 where
  pub runs : (limit : ℕ) (xs : List ℕ) (left : ℕ) → runs_of limit fs k xs left ≡ run_applied (runs_of limit before) limit f xs left
  pub fewer : length before < length fs
