-- What an answer of the database says once it is told as one of the keeper.
use Rattle.std.proofs.Common.{◌≡◌, ℕ, List, map, Result, Ok, Err, IfOk, IfErr, MatchResult, Vec, Global}
use Rattle.sqlite.specs.declared.error.Error.{Error}
use Rattle.sqlite.specs.State.{State}
use Rattle.pg_base.specs.declared.outside.OutFault.TheVariants.{Failed}
use Rattle.pg_keep.specs.declared.row.Row.{Row}
use Rattle.pg_keep.specs.Rows.{entry_of}
use Rattle.pg_keep_sql.specs.Statements.{FailsToSelect, IsRefusal, MakesTable, Selects}
use Rattle.pg_keep_sql.specs.Store.{IsMade, told}

pub still-selects : (player : List ℕ) (answer : Result (Vec Row Global) Error) (old new : State)
    → IfOk answer (λ found. Selects player (map entry_of found.items) old new)
    → IfErr answer (λ e. IsRefusal e → FailsToSelect player old new)
    → MatchResult (told answer) (λ found. Selects player (map entry_of found.items) old new)
    (λ e. e ≡ Failed → FailsToSelect player old new)
still-selects player (Ok found) old new shown fails = shown
still-selects player (Err e) old new shown fails = λ failed. fails (λ memory. let other = rw memory at failed in absurd cc)

pub made : {C : Type 0} (shows : C → State) (was conn : C) (answer : Result (Unit {0}) Error) (x : Unit {0})
    → told answer ≡ Ok x → MakesTable answer (shows was) (shows conn) → IsMade shows conn
made shows was conn (Ok y) x is ran = (was, ran)
made shows was conn (Err e) x is ran = absurd cc
