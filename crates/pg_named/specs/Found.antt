-- Names that count in a search.
use Rattle.std.specs.Prelude.{ℕ, Bool, true, false, ◌&&◌, ◌||◌, not, List, Option, Some, None, if◌then◌else◌}
use Rattle.std.specs.Str.{bytes_eq}
use Rattle.pg_gametext.specs.Before.{Given, only_declared, least_with}

-- the declared alone, or all
abbrev pub kept : (declared : Bool) → List Given → List Given
kept true gs = only_declared gs
kept false gs = gs

abbrev pub counts : List ℕ → (declared : Bool) → Given → Bool
counts x declared g = (not declared || g.declared) && bytes_eq x g.name

-- the least of two places that there may be
abbrev pub sooner_place : Option ℕ → Option ℕ → Option ℕ
sooner_place None other = other
sooner_place (Some at) other = least_with at other

-- the least place so far, with one entry more
abbrev pub with_entry : List ℕ → (declared : Bool) → Given → Option ℕ → Option ℕ
with_entry x declared g first = if counts x declared g then least_with g.at first else first
