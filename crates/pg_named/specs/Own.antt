-- The names of one command, one behind the other.
use Rattle.std.specs.Prelude.{ℕ, List, [], ◌∷◌, ◌++◌, Option, if◌then◌else◌}
use Rattle.std.specs.Str.{bytes_eq}
use Rattle.pg_gametext.specs.Faults.{Fault}
use Rattle.pg_gametext.specs.Before.{Given, first_place, least_with}
use Rattle.pg_gametext.specs.Checks.{clash_fault}

-- the clash of one name, or of none, where names given and bound stand before the command, and names of its own
abbrev pub own_clash : (given bound own : List Given) → List Given → List Fault
own_clash given bound own [] = []
own_clash given bound own (g ∷ gs) = clash_fault g.at (first_place g.name (own ++ (if g.declared then given ++ bound else given)))

-- the least place of a name, where another may count too
abbrev pub with_own : List ℕ → List Given → Option ℕ → Option ℕ
with_own x [] place = place
with_own x (g ∷ gs) place = if bytes_eq x g.name then least_with g.at place else place
