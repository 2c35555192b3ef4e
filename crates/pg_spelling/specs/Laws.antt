-- Laws of fresh names.
use Rattle.std.specs.Prelude.{◌+◌, ◌<◌, ◌^◌, List, length}
use Rattle.pg_logic.specs.Declarations.{Name}
use Rattle.pg_spelling.specs.Fresh.{fresh, IsFresh}

-- A fresh name isn't taken; it is the name itself or has the least number.
abbrev pub FreshLaw : Type 0
FreshLaw = (names : List Name) (name : Name) → length names + 1 < 2 ^ 64 → IsFresh names name (fresh names name)
