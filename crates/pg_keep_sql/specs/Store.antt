-- What the calls of a keeper do to its store.
use Rattle.std.specs.Prelude.{◌≡◌, ℕ, List, Option, Some, None, map, Result, Ok, Err, MatchResult, String, Vec, []}
use Rattle.std.specs.declared.alloc.Global.{Global}
use Rattle.sqlite.specs.State.{State, HasCleanDisk}
use Rattle.sqlite.specs.Held.{state}
use Rattle.sqlite.specs.Files.{file_state}
use Rattle.sqlite.specs.Steps.{over_memory}
use Rattle.sqlite.specs.declared.error.Error.{Error}
use Rattle.pg_base.specs.declared.outside.OutFault.{OutFault}
use Rattle.pg_base.specs.declared.outside.OutFault.TheVariants.{Failed}
use Rattle.pg_keep.specs.Rows.{Entry, entry_of}
use Rattle.pg_keep.specs.declared.row.Row.{Row}
use Rattle.pg_keep.specs.Keeping.{kept_name}
use Rattle.pg_keep_sql.specs.declared.store.Store.{Store}
use Rattle.pg_keep_sql.specs.declared.store.Store.TheVariants.{Closed, File, Memory}
use Rattle.pg_keep_sql.specs.Statements.{FailsToSelect, HasRun, Inserts, Selects, fault, table_text}

-- the names with which a keeper was started
abbrev pub kept_names : List (Option (String Global)) → List (Option (List ℕ))
kept_names = map kept_name

-- P holds of the database before and after, or there is no store yet, and Q holds
abbrev pub InStore : (State → State → Type 0) → Type 0 → Store → Store → Type 0
InStore P Q Closed Closed = Q
InStore P Q (File old) (File new) = P (file_state old) (file_state new)
InStore P Q (Memory old) (Memory new) = P (state over_memory old) (state over_memory new)
InStore P Q old new = ⊥

-- an answer of the database as one of the keeper
abbrev pub told : {T : Type 0} → Result T Error → Result T OutFault
told (Ok x) = Ok x
told (Err e) = Err (fault e)

-- the last statement made the table, where there was none
abbrev pub IsMade : {C : Type 0} → (C → State) → C → Type 0
IsMade {C} shows conn = (was : C) × (HasCleanDisk (shows conn) → HasRun table_text [] (shows was) (shows conn))

-- an open store of this name has the table
abbrev pub StandsFor : Option (List ℕ) → Store → Type 0
StandsFor (Some name) (File conn) = IsMade file_state conn
StandsFor None (Memory conn) = IsMade (state over_memory) conn
StandsFor name store = ⊥

-- a row was inserted, or this was refused
abbrev pub Appends : Entry → Result (Unit {0}) OutFault → Store → Store → Type 0
Appends row result = InStore
    (λ old new. (ran : Result (Unit {0}) Error) × Inserts row ran old new × (result ≡ told ran))
    (result ≡ Err Failed)

-- the rows of a player are found, or this failed
abbrev pub Finds : List ℕ → Result (Vec Row Global) OutFault → Store → Store → Type 0
Finds player result = InStore
    (λ old new. MatchResult result
    (λ found. Selects player (map entry_of found.items) old new)
    (λ e. e ≡ Failed → FailsToSelect player old new))
    (result ≡ Err Failed)
