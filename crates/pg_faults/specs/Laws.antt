-- The first fault of two lists.
use Rattle.std.specs.Prelude.{◌≡◌, List, ◌++◌}
use Rattle.pg_gametext.specs.Faults.{Fault, least}
use Rattle.pg_faults.specs.View.{sooner}

-- The least of two lists together is the first of the least of each.
abbrev pub LeastLaw : Type 0
LeastLaw = (fs gs : List Fault) → least (fs ++ gs) ≡ sooner (least fs) (least gs)
