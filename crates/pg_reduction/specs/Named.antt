-- A hypothesis with its number.
use Rattle.pg_moves.specs.Assuming.{Found}
use Rattle.pg_goal.specs.View.{hyp_of}
use Rattle.pg_reduction.specs.declared.found.Found as rust

-- the hypothesis and its number
abbrev pub found_of : rust.Found → Found
found_of f = record { number = f.number; hyp = hyp_of f.hyp.now }
