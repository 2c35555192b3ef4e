-- The names that the Rust types stand for.
use Rattle.std.specs.Prelude.{List, [], ◌∷◌, ◌++◌, map, reverse, Option, Some, None}
use Rattle.pg_gametext.specs.Before as before
use Rattle.pg_named.specs.declared.given.Given.{Given}
use Rattle.pg_named.specs.declared.given.GivenNames.{GivenNames}
use Rattle.pg_named.specs.declared.names.Names.{Names}

abbrev pub given : Given → before.Given
given g = record { name = g.name.now; at = g.at; declared = g.declared }

abbrev pub maybe_given : Option Given → List before.Given
maybe_given None = []
maybe_given (Some g) = given g ∷ []

-- the names that a command gives, in their order
abbrev pub listed : GivenNames → List before.Given
listed n = maybe_given n.first ++ (maybe_given n.second ++ maybe_given n.third)

-- the names given, the nearest first
abbrev pub given_before : Names → List before.Given
given_before n = map given (reverse n.given.items)

-- the names bound, the nearest first
abbrev pub bound_before : Names → List before.Given
bound_before n = map given (reverse n.bound.items)
