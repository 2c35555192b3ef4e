-- What the calls of a keeper do to its rows, where it tells them, and what a keeper in memory holds.
use Rattle.std.specs.Prelude.{◌≡◌, ◌⊎◌, ℕ, Bool, true, false, List, [], ◌∷◌, ◌++◌, Option, Some, None, IsSome, option_map, Result, Ok, Err, ⊤, ◌==◌, if◌then◌else◌, string_bytes, String}
use Rattle.std.specs.Borrow.{Bor}
use Rattle.std.specs.declared.alloc.Global.{Global}
use Rattle.pg_base.specs.declared.outside.OutFault.{OutFault}
use Rattle.pg_base.specs.declared.outside.OutFault.TheVariants.{Failed, OutOfMemory}
use Rattle.pg_base.specs.Calls.{next_number}
use Rattle.pg_keep.specs.Rows.{Entry, rows_of}

-- the name of a store, where one is given
abbrev pub name_of : Option (Bor (List ℕ)) → Option (List ℕ)
name_of = option_map (λ name. name.now)

-- the rows of this player, where the rows are told
abbrev pub GivesRows : Option (List Entry) → List ℕ → List Entry → Type 0
GivesRows None player given = ⊤
GivesRows (Some rows) player given = given ≡ rows_of player rows

-- The row was put last. After a failure it stands there or not. Rows that aren't told stay so.
abbrev pub AppendsRow : {T : Type 0} → Option (List Entry) → Option (List Entry) → Result T OutFault → Entry → Type 0
AppendsRow None new result row = new ≡ None
AppendsRow (Some rows) new (Ok x) row = new ≡ Some (rows ++ row ∷ [])
AppendsRow (Some rows) new (Err Failed) row = (new ≡ Some rows) ⊎ (new ≡ Some (rows ++ row ∷ []))
AppendsRow (Some rows) new (Err OutOfMemory) row = new ≡ Some rows

-- ---- in memory

-- a keeper: its rows, the names with which it was started, the numbers of the calls that fail and whether an
-- append that fails leaves its row, how many calls were made, and how many of them failed
pub record KeeperState : Type 0 where
  pub rows : List Entry
  pub asked : List (Option (List ℕ))
  pub failing : List (ℕ × Bool)
  pub made : ℕ
  pub faults : ℕ

-- what the list says of the call of this number: whether it leaves its row, or that it doesn't fail
abbrev pub fault_at : List (ℕ × Bool) → ℕ → Option Bool
fault_at [] number = None
fault_at (call ∷ failing) number = if call.0 == number then Some call.1 else fault_at failing number

-- what it says of the next call
abbrev pub next_fault : KeeperState → Option Bool
next_fault keeper = fault_at keeper.failing keeper.made

-- the next call is one of those that fail
abbrev pub NextFails : KeeperState → Type 0
NextFails keeper = IsSome (next_fault keeper)

-- one more call was made, and nothing else of the keeper changed but what is said of it
pub record MadeCall (old new : KeeperState) : Type 0 where
  pub failing : new.failing ≡ old.failing
  pub made : new.made ≡ next_number old.made

-- a row behind the rows, where the flag says that it is left there
abbrev pub left_by : Option Bool → List Entry → Entry → List Entry
left_by (Some true) rows row = rows ++ row ∷ []
left_by (Some false) rows row = rows
left_by None rows row = rows

-- The rows after an append: with the row last, or as the flag of a call that fails has it.
abbrev pub rows_after : {T : Type 0} → Option Bool → List Entry → Result T OutFault → Entry → List Entry
rows_after flag rows (Ok x) row = rows ++ row ∷ []
rows_after flag rows (Err Failed) row = left_by flag rows row
rows_after flag rows (Err OutOfMemory) row = rows

-- the name of a store that is kept in a list
abbrev pub kept_name : Option (String Global) → Option (List ℕ)
kept_name = option_map string_bytes
