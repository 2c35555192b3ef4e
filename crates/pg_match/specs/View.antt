-- The values that the Rust type stands for: a box stands for what it holds.
use Rattle.std.specs.Prelude.{List, Option, option_map, map}
use Rattle.pg_terms.specs.declared.term.Term.{Term}
use Rattle.pg_terms.specs.View.{term}
use Rattle.pg_moves.specs.Instances.{Values}
use Rattle.pg_match.specs.declared.found.Found.{Found}

-- values of holes
abbrev pub values : List (Option Term) → Values
values vs = map (option_map term) vs

-- what is found
abbrev pub found_values : Found → Values
found_values f = values f.values
