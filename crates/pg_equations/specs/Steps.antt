-- What comes of one token where an equation is looked for.
use Rattle.std.specs.Prelude.{ℕ, ◌+◌, ◌≤◌, List, Option, Some, None}
use Rattle.pg_base.specs.Tokens.{Word}
use Rattle.pg_gametext.specs.Reading as reading
use Rattle.pg_equations.specs.declared.scan.Outside.{Outside}
use Rattle.pg_equations.specs.declared.scan.Outside.TheVariants as is
use Rattle.pg_equations.specs.declared.scan.Step.{Step}
use Rattle.pg_equations.specs.declared.scan.Step.TheVariants as goes

abbrev pub outside_in : Outside → reading.Outside
outside_in is.Opens = reading.Opens
outside_in is.Closes = reading.Closes
outside_in is.Equals = reading.Equals
outside_in is.Joins = reading.Joins
outside_in is.Negates = reading.Negates
outside_in is.Quantifies = reading.Quantifies
outside_in is.Within = reading.Within

-- the first token with which no equation goes on, after a step over this one
abbrev pub after : Step → (end : ℕ) → Word → List Word → Option ℕ
after (goes.On seen depth) end w ws = reading.no_equation seen depth end ws
after goes.Ends end w ws = None
after goes.Breaks end w ws = Some w.at

-- a step opens one parenthesis at most
abbrev pub IsNear : ℕ → Step → Type 0
IsNear depth (goes.On seen within) = within ≤ depth + 1
IsNear depth _ = Unit {0}
