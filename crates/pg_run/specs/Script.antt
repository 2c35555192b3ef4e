-- The script of the door's first connection.
use Rattle.std.specs.Prelude.{◌≡◌, ℕ, List, [], ◌∷◌, take, Option, Some, None, ⊤}
use Rattle.pg_base.specs.Outside.{Told}

-- the front of what a source had to give, up to the limit of a script and one byte more
abbrev pub TookFront : Option (List ℕ) → List ℕ → Type 0
TookFront None bytes = ⊤
TookFront (Some all) bytes = bytes ≡ take 16385 all

-- the bytes are those of the first connection, and none without one
abbrev pub DoorGave : Option (List Told) → List ℕ → Type 0
DoorGave None bytes = ⊤
DoorGave (Some []) bytes = bytes ≡ []
DoorGave (Some (told ∷ rest)) bytes = TookFront told.left bytes
