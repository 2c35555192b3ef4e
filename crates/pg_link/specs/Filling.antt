-- What filling a buffer from a link did.
use Rattle.std.specs.Prelude.{◌≡◌, ◌<◌, ◌≤◌, ℕ, List, ◌++◌, length, Option}
use Rattle.std.specs.Io.KnownBytes.{Consumes}
use Rattle.pg_messages.specs.Links.{IsEmptied}
use Rattle.pg_link.specs.declared.reading.Filled.{Filled}
use Rattle.pg_link.specs.declared.reading.Filled.TheVariants.{Enough, End, ReadFault, OutOfMemory}

-- these bytes came from the link, and stand behind those that the buffer held
abbrev pub Came : Option (List ℕ) → Option (List ℕ) → List ℕ → List ℕ → Type 0
Came left left_now held held_now = (piece : List ℕ) × Consumes left left_now piece × (held_now ≡ held ++ piece)

-- by how it ended; bytes that found no memory are lost
abbrev pub Fills : Option (List ℕ) → Option (List ℕ) → Type 0 → List ℕ → List ℕ → ℕ → Filled → Type 0
Fills left left_now failed held held_now wanted Enough = Came left left_now held held_now × (wanted ≤ length held_now)
Fills left left_now failed held held_now wanted End = Came left left_now held held_now × (length held_now < wanted) × IsEmptied left left_now
Fills left left_now failed held held_now wanted ReadFault = Came left left_now held held_now × (length held_now < wanted) × failed
Fills left left_now failed held held_now wanted OutOfMemory = (piece : List ℕ) × Consumes left left_now piece
