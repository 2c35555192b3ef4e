-- A row put at its place, and the rows of a player from one row on.
use Rattle.std.proofs.Common.{◌≡◌, ◌<◌, ℕ, ◌+◌, true, false, List, ◌∷◌, map, take, drop, length, get_or, refl, sym}
use Rattle.std.specs.List.{insert}
use Rattle.std.specs.Str.{bytes_eq}
use Rattle.std.proofs.lemmas.List.{drop_more, map-append, take-map, drop-map}
use Rattle.pg_keep.specs.declared.row.Row.{Row}
use Rattle.pg_keep.specs.Rows.{Entry, entry_of, place_of, rows_of}

pub map-insert : {X Y : Type 0} (f : X → Y) (xs : List X) (i : ℕ) (x : X) → map f (insert xs i x) ≡ insert (map f xs) i (f x)
map-insert f xs i x = rw (map-append f (take i xs) (x ∷ drop i xs), take-map f i xs, drop-map f i xs) refl

-- the rows of a player, where the first row is theirs and where it isn't
pub own-first : (player : List ℕ) (row : Entry) (rows : List Entry) → bytes_eq row.player player ≡ true
    → rows_of player (row ∷ rows) ≡ insert (rows_of player rows) (place_of row.no (rows_of player rows)) row
own-first player row rows own = rw own refl

pub other-first : (player : List ℕ) (row : Entry) (rows : List Entry) → bytes_eq row.player player ≡ false
    → rows_of player (row ∷ rows) ≡ rows_of player rows
other-first player row rows other = rw other refl

-- from one row on
pub from-row : (player : List ℕ) (rows : List Row) (i : ℕ) (d : Row) → i < length rows
    → rows_of player (map entry_of (drop i rows)) ≡ rows_of player (entry_of (get_or rows i d) ∷ map entry_of (drop (i + 1) rows))
from-row player rows i d lt = rw (drop_more rows i d lt) refl

-- a player's row is placed among those behind it
pub placed-own : (player : List ℕ) (rows found found-now : List Row) (i left place : ℕ) (row copy d : Row)
    → map entry_of found ≡ rows_of player (map entry_of (drop left rows)) → left ≡ i + 1 → i < length rows → get_or rows i d ≡ row
    → bytes_eq (entry_of row).player player ≡ true → place ≡ place_of row.no (map entry_of found) → entry_of copy ≡ entry_of row
    → found-now ≡ insert found place copy → map entry_of found-now ≡ rows_of player (map entry_of (drop i rows))
placed-own player rows found found-now i left place row copy d before next lt at own where-is same now =
    let whole : rows_of player (map entry_of (drop i rows)) ≡ rows_of player (entry_of row ∷ map entry_of (drop left rows)) =
    rw (next, sym at) (from-row player rows i d lt) in
    rw (now, map-insert entry_of found place copy, same, where-is, before, whole, own-first player (entry_of row) (map entry_of (drop left rows)) own) refl
