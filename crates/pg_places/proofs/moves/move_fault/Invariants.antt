use Rattle.std.proofs.Common.{◌≡◌, take}
use Rattle.pg_faults.specs.View.{found}
use Rattle.pg_gametext.specs.Checks.{move_faults}
use Rattle.pg_gametext.specs.Faults.{least}
use Rattle.pg_script.specs.View.{words}
use Rattle.pg_places.proofs.moves.move_fault.Given as goal

abbrev pub invariant-loop-name : goal.invariant-loop-name
invariant-loop-name l = found l.first ≡ least (move_faults (words (take l.name-index l.names)))
