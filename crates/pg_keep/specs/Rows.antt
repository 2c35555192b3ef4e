-- The rows of a class as plain data, and those of one player in order.
use Rattle.std.specs.Prelude.{ℕ, suc, ◌≤◌, nat_le, Bool, List, [], ◌∷◌, length, if◌then◌else◌, string_bytes}
use Rattle.std.specs.List.{filter, insert}
use Rattle.std.specs.Str.{bytes_eq}
use Rattle.pg_keep.specs.declared.row.Row.{Row}

-- a row: whose it is, its number, the level, the script, and whether the script closed the level
pub record Entry : Type 0 where
  pub player : List ℕ
  pub no : ℕ
  pub world : List ℕ
  pub level : ℕ
  pub script : List ℕ
  pub closed : Bool

-- a row as plain data
abbrev pub entry_of : Row → Entry
entry_of row = record {
  player = string_bytes row.player;
  no = row.no;
  world = string_bytes row.world;
  level = row.level;
  script = string_bytes row.script;
  closed = row.closed;
}

-- how many rows stand before the first that has this number or a greater one
abbrev pub place_of : ℕ → List Entry → ℕ
place_of number [] = 0
place_of number (row ∷ rows) = if nat_le number row.no then 0 else suc (place_of number rows)

-- the rows in the order of their numbers, those of one number as they stand
abbrev pub in_order : List Entry → List Entry
in_order [] = []
in_order (row ∷ rows) = insert (in_order rows) (place_of row.no (in_order rows)) row

-- the rows of a player, in that order
abbrev pub rows_of : List ℕ → List Entry → List Entry
rows_of player rows = in_order (filter (λ row. bytes_eq row.player player) rows)

-- a row that may be kept: so many bytes at most
pub record IsShort (row : Entry) : Type 0 where
  pub player : length row.player ≤ 32
  pub world : length row.world ≤ 32
  pub script : length row.script ≤ 16384
