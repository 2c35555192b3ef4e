-- Which calls of an object in memory fail, and what is counted.
use Rattle.std.specs.Prelude.{◌≡◌, ℕ, ◌+◌, ◌-◌, ◌^◌, min, List, Contains, Result, Ok, Err}
use Rattle.pg_base.specs.declared.outside.OutFault.{OutFault}
use Rattle.pg_base.specs.declared.outside.OutFault.TheVariants.{Failed, OutOfMemory}

-- the numbers of the calls that fail, counted from 0, and how many calls were made
pub record Calls : Type 0 where
  pub failing : List ℕ
  pub made : ℕ

-- the next call is one of those that fail
abbrev pub Fails : Calls → Type 0
Fails calls = Contains calls.failing calls.made

-- the number after this one, which stands still at its type's end
abbrev pub next_number : ℕ → ℕ
next_number n = min (n + 1) (2 ^ 64 - 1)

-- after one more call
abbrev pub one_more : Calls → Calls
one_more calls = record { failing = calls.failing; made = next_number calls.made }

-- it failed exactly where P holds, if memory didn't run out
abbrev pub FailsWhere : {T : Type 0} → Type 0 → Result T OutFault → Type 0
FailsWhere P (Ok x) = ¬ P
FailsWhere P (Err Failed) = P
FailsWhere P (Err OutOfMemory) = Unit {0}

-- the count rises where a call failed, and there alone
abbrev pub CountsFailures : {T : Type 0} → ℕ → ℕ → Result T OutFault → Type 0
CountsFailures before now (Ok x) = now ≡ before
CountsFailures before now (Err Failed) = now ≡ next_number before
CountsFailures before now (Err OutOfMemory) = now ≡ before
