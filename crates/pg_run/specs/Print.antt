-- What stands on `out` after a run.
use Rattle.std.specs.Prelude.{◌≡◌, ◌⊎◌, ◌<◌, ℕ, List, length, take, Option}
use Rattle.std.specs.Io.KnownBytes.{Appends}

-- a proper prefix of the text was written
abbrev pub WrotePart : Option (List ℕ) → Option (List ℕ) → List ℕ → Type 0
WrotePart old new text = (n : ℕ) × (n < length text) × Appends old new (take n text)

-- The lines of a status are printed, and the status is answered. Or a proper prefix of them is: where memory ran out,
-- with status 4, or where `out` failed, with status 5.
abbrev pub Printed : List ℕ → ℕ → ℕ → Option (List ℕ) → Option (List ℕ) → Type 0 → Type 0
Printed lines status result old new out_failed =
    ((result ≡ status) × Appends old new lines)
    ⊎ ((result ≡ 4) × WrotePart old new lines)
    ⊎ ((result ≡ 5) × WrotePart old new lines × out_failed)
