-- The three statements of a store, and the values that rows have there.
use Rattle.std.specs.Prelude.{◌≡◌, ◌≢◌, ◌<◌, ◌^◌, ◌⊎◌, ℕ, All, IsUtf8, ℤ, pos, Bool, List, [], ◌∷◌, map, codes, if◌then◌else◌, Result, Ok, Err}
use Rattle.sqlite.specs.declared.types.Value.TheVariants.{Int, Text}
use Rattle.sqlite.specs.Order.{Row, column}
use Rattle.sqlite.specs.declared.error.ErrorCode.TheVariants as code
use Rattle.sqlite.specs.declared.error.Error.{Error}
use Rattle.sqlite.specs.declared.error.Error.TheVariants.{SqliteFailure}
use Rattle.sqlite.specs.State.{State, HasCleanDisk, Executes, FailsToQuery, Shown}
use Rattle.pg_base.specs.declared.outside.OutFault.{OutFault}
use Rattle.pg_base.specs.declared.outside.OutFault.TheVariants.{Failed, OutOfMemory}
use Rattle.pg_keep.specs.Rows.{Entry}

abbrev pub table_text : List ℕ
table_text = codes "CREATE TABLE IF NOT EXISTS attempt (player TEXT NOT NULL, no INTEGER NOT NULL, world TEXT NOT NULL, level INTEGER NOT NULL, script TEXT NOT NULL, closed INTEGER NOT NULL, PRIMARY KEY (player, no)) STRICT"

abbrev pub insert_text : List ℕ
insert_text = codes "INSERT INTO attempt (player, no, world, level, script, closed) VALUES (?1, ?2, ?3, ?4, ?5, ?6)"

abbrev pub select_text : List ℕ
select_text = codes "SELECT no, world, level, script, closed FROM attempt WHERE player = ?1 ORDER BY no"

-- whether a script closed its level, as a number
abbrev pub flag : Bool → ℤ
flag closed = if closed then pos 1 else pos 0

-- the values of a row in the columns of the table
abbrev pub values : Entry → Row
values row = Text row.player ∷ Int (pos row.no) ∷ Text row.world ∷ Int (pos row.level) ∷ Text row.script
    ∷ Int (flag row.closed) ∷ []

-- what was shown of a row of this player, as values in those columns
abbrev pub with_player : List ℕ → Row → Row
with_player player shown = Text player ∷ column shown 0 ∷ column shown 1 ∷ column shown 2 ∷ column shown 3
    ∷ column shown 4 ∷ []

-- want of memory, or any other refusal
abbrev pub fault : Error → OutFault
fault (SqliteFailure code.OutOfMemory) = OutOfMemory
fault e = Failed

-- a statement was run, whatever count of rows it gave
abbrev pub HasRun : List ℕ → Row → State → State → Type 0
HasRun text params old new = (count : ℕ) × Executes text params old new (Ok count)

-- it was run, or refused
abbrev pub Runs : {T : Type 0} → List ℕ → Row → Result T Error → State → State → Type 0
Runs text params (Ok x) old new = HasRun text params old new
Runs text params (Err e) old new = Executes text params old new (Err e)

-- the table was made where there was none
abbrev pub MakesTable : {T : Type 0} → Result T Error → State → State → Type 0
MakesTable result old new = HasCleanDisk new → Runs table_text [] result old new

-- the row was inserted, or this was refused
abbrev pub Inserts : {T : Type 0} → Entry → Result T Error → State → State → Type 0
Inserts row result old new = HasCleanDisk new → Runs insert_text (values row) result old new

-- what may stand in a kept row: numbers within their bounds, and texts
pub record IsRow (row : Entry) : Type 0 where
  pub no : row.no < 2 ^ 32
  pub world : IsUtf8 row.world
  pub level : row.level < 2 ^ 16
  pub script : IsUtf8 row.script

-- what was shown of a row of this player is a row
abbrev pub Fits : List ℕ → Row → Type 0
Fits player shown = (row : Entry) × IsRow row × (with_player player shown ≡ values row)

-- it is not for want of memory
abbrev pub IsRefusal : Error → Type 0
IsRefusal e = e ≢ SqliteFailure code.OutOfMemory

-- these are shown of the player
abbrev pub Shows : List ℕ → List Row → State → State → Type 0
Shows player shown old new = HasCleanDisk new → Shown select_text (Text player ∷ []) old new shown

-- the database refused to show them
abbrev pub Refuses : List ℕ → Error → State → State → Type 0
Refuses player e old new = HasCleanDisk new → FailsToQuery select_text (Text player ∷ []) old new e

-- the rows are those that are shown of the player
abbrev pub Selects : List ℕ → List Entry → State → State → Type 0
Selects player rows old new = (shown : List Row) × Shows player shown old new
    × (map (with_player player) shown ≡ map values rows)

-- the database refused to show them, or one that is shown is no row
abbrev pub FailsToSelect : List ℕ → State → State → Type 0
FailsToSelect player old new = ((e : Error) × Refuses player e old new)
    ⊎ ((shown : List Row) × Shows player shown old new × (¬ All (Fits player) shown))
