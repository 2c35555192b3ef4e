-- Both equations of a function.
use Rattle.std.specs.Prelude.{ℕ, List, Option, Some, None, option_map, Result, Ok, Err}
use Rattle.std.specs.Borrow.{Bor}
use Rattle.pg_base.specs.declared.token.Token.{Token}
use Rattle.pg_script.specs.View.{words}
use Rattle.pg_gametext.specs.Forms.{Taken, Told, Equation, equation_taken, or_ended}
use Rattle.pg_forms.specs.declared.declared.Equations.{Equations}
use Rattle.pg_forms.specs.View.{equation}

-- the first and the second
abbrev pub Pair : Type 0
Pair = Option Equation × Option Equation

abbrev pub both : Equations → Pair
both e = (option_map equation e.at_zero, option_map equation e.at_succ)

abbrev pub second_at : ℕ → Taken (Option Equation) → Told Pair
second_at end first = elim first.stuck [
  | Some at ↦ record { value = (first.value, None); stuck = Some at }
  | None ↦ let next = equation_taken end first.rest in record { value = (first.value, next.value); stuck = or_ended next.stuck next.rest }
]

-- behind the parameters
abbrev pub equations_at : ℕ → Result (Bor (List Token)) ℕ → Told Pair
equations_at end (Ok rest) = second_at end (equation_taken end (words rest.now))
equations_at end (Err at) = record { value = (None, None); stuck = Some at }
