-- Sets of numbers as lists, and as lists of flags.
use Rattle.std.specs.Prelude.{ℕ, Bool, false, List, ◌==◌, slice_index_or}
use Rattle.std.specs.List.{list_any}

-- whether the list has the number
abbrev pub has : List ℕ → ℕ → Bool
has xs k = list_any (λ x. x == k) xs

-- whether the flag of the number stands
abbrev pub flag : List Bool → ℕ → Bool
flag flags k = slice_index_or flags k false
