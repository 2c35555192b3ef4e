-- What a roster is, and the one fault of a file that is none.
use Rattle.std.specs.Prelude.{◌≡◌, ℕ, ◌+◌, nat_le, nat_lt, Bool, not, ◌&&◌, ◌||◌, ◌==◌, List, [], ◌∷◌, ◌++◌, drop, length, Option, Some, None, if◌then◌else◌, Result, Ok, Err, ⊤, codes, string_bytes}
use Rattle.std.specs.Char.{is_ascii_alphanumeric, is_ascii_graphic}
use Rattle.std.specs.List.{list_any, list_all, filter_map, find}
use Rattle.std.specs.Option.{option_or}
use Rattle.std.specs.Str.{bytes_eq}
use Rattle.pg_roster.specs.declared.fault.RosterFault.{RosterFault}
use Rattle.pg_roster.specs.declared.fault.RosterFault.TheVariants as fault
use Rattle.pg_roster.specs.declared.roster.Player.{Player}
use Rattle.pg_roster.specs.Records.{file_records}

-- ---- players and passes

-- a player with their pass
pub record Member : Type 0 where
  pub name : List ℕ
  pub pass : List ℕ

abbrev pub member : Player → Member
member player = record { name = string_bytes player.name; pass = string_bytes player.pass }

-- a letter, a digit, `-` (45) or `_` (95)
abbrev pub is_name_byte : ℕ → Bool
is_name_byte b = is_ascii_alphanumeric b || (b == 45) || (b == 95)

-- so many bytes, 1 or more
abbrev pub has_length : ℕ → List ℕ → Bool
has_length most text = nat_lt 0 (length text) && nat_le (length text) most

abbrev pub is_name : List ℕ → Bool
is_name text = has_length 32 text && list_all is_name_byte text

-- of bytes that are printed and are no blank, 0x21 to 0x7E
abbrev pub is_pass : List ℕ → Bool
is_pass text = has_length 64 text && list_all is_ascii_graphic text

abbrev pub has_name : List ℕ → Member → Bool
has_name name m = bytes_eq m.name name

abbrev pub has_pass : List ℕ → Member → Bool
has_pass pass m = bytes_eq m.pass pass

-- the player with this pass
abbrev pub member_with : List ℕ → List Member → Option Member
member_with pass = find (has_pass pass)

-- ---- rows

-- the member that a row of two fields names
abbrev pub member_of : List (List ℕ) → Option Member
member_of [] = None
member_of (name ∷ []) = None
member_of (name ∷ pass ∷ []) = Some (record { name = name; pass = pass })
member_of (name ∷ pass ∷ more ∷ fields) = None

-- the first fault of a member in the row of this number, behind these members
abbrev pub member_fault : List Member → ℕ → Member → Option RosterFault
member_fault before row m =
    if not (is_name m.name) then Some (fault.Player row)
    else (if not (is_pass m.pass) then Some (fault.Pass row)
    else (if list_any (has_name m.name) before then Some (fault.PlayerTwice row)
    else (if list_any (has_pass m.pass) before then Some (fault.PassTwice row)
    else (if length before == 256 then Some (fault.TooMany row) else None))))

abbrev pub row_fault : List Member → ℕ → Option Member → Option RosterFault
row_fault before row None = Some (fault.Width row)
row_fault before row (Some m) = member_fault before row m

-- the first fault of these rows, behind the rows of these members, counted from 1
abbrev pub first_fault : List Member → List (List (List ℕ)) → Option RosterFault
first_fault before [] = None
first_fault before (row ∷ rows) =
    option_or (row_fault before (length before + 1) (member_of row)) (first_fault (before ++ filter_map member_of (row ∷ [])) rows)

-- ---- a file

abbrev pub is_header : List (List ℕ) → Bool
is_header [] = nat_lt 0 0
is_header (name ∷ []) = nat_lt 0 0
is_header (name ∷ pass ∷ []) = bytes_eq name (codes "player") && bytes_eq pass (codes "pass")
is_header (name ∷ pass ∷ more ∷ fields) = nat_lt 0 0

abbrev pub rows_fault : List (List (List ℕ)) → Option RosterFault
rows_fault [] = Some fault.Empty
rows_fault (row ∷ rows) = first_fault [] (row ∷ rows)

abbrev pub records_fault : List (List (List ℕ)) → Option RosterFault
records_fault [] = Some fault.Header
records_fault (header ∷ rows) = if not (is_header header) then Some fault.Header else rows_fault rows

-- the fault of a file, where it is no roster
abbrev pub roster_fault : List ℕ → Option RosterFault
roster_fault bytes = if nat_lt 65536 (length bytes) then Some fault.TooLong else records_fault (file_records bytes)

-- the two fields of a record that has two
abbrev pub two_of : List (List ℕ) → Option (List (List ℕ))
two_of fields = if length fields == 2 then Some fields else None

-- what a row gives behind the rows of these members: its member where it has no fault, or its fault
abbrev pub ReadsRow : List Member → List (List ℕ) → Result Player RosterFault → Type 0
ReadsRow before fields (Ok player) = (row_fault before (length before + 1) (member_of fields) ≡ None) × (member_of fields ≡ Some (member player))
ReadsRow before fields (Err fault.OutOfMemory) = ⊤
ReadsRow before fields (Err told) = row_fault before (length before + 1) (member_of fields) ≡ Some told

-- what the rows behind the header give
abbrev pub ReadsRows : List (List (List ℕ)) → Result (List Member) RosterFault → Type 0
ReadsRows rows (Ok members) = (first_fault [] rows ≡ None) × (members ≡ filter_map member_of rows)
ReadsRows rows (Err fault.OutOfMemory) = ⊤
ReadsRows rows (Err told) = first_fault [] rows ≡ Some told

-- the members of a file, in the order of its rows
abbrev pub roster_of : List ℕ → List Member
roster_of bytes = filter_map member_of (drop 1 (file_records bytes))

-- a file was read as its members exactly where it has no fault, and else its fault was told, unless memory ran out
abbrev pub Reads : List ℕ → Result (List Member) RosterFault → Type 0
Reads bytes (Ok members) = (roster_fault bytes ≡ None) × (members ≡ roster_of bytes)
Reads bytes (Err fault.OutOfMemory) = ⊤
Reads bytes (Err told) = roster_fault bytes ≡ Some told
