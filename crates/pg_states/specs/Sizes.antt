-- How large the closed formula of a statement is, by its parts.
use Rattle.std.specs.Prelude.{ℕ, ◌+◌, max, List, [], ◌∷◌}
use Rattle.pg_logic.specs.Tree.{nodes_of, height_of}
use Rattle.pg_gametext.specs.Reading.{Binder, var, hyp}

-- the nodes, where the target has so many
abbrev pub nodes_under : List Binder → ℕ → ℕ
nodes_under [] target = target
nodes_under (var x ∷ more) target = nodes_under more target + 1
nodes_under (hyp h a ∷ more) target = nodes_of a + nodes_under more target + 1

-- the height, where that of the target is this
abbrev pub height_under : List Binder → ℕ → ℕ
height_under [] target = target
height_under (var x ∷ more) target = height_under more target + 1
height_under (hyp h a ∷ more) target = max (height_of a) (height_under more target) + 1

-- the height of a binder's own formula
abbrev pub height_in : Binder → ℕ
height_in (var x) = 0
height_in (hyp h a) = height_of a
