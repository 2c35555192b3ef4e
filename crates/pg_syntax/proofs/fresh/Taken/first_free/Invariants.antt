use Rattle.std.proofs.Common.{◌≡◌, ◌+◌, ◌-◌, length}
use Rattle.pg_spelling.specs.Fresh.{free_number}
use Rattle.pg_syntax.specs.Places.{taken_names}
use Rattle.pg_syntax.proofs.fresh.Taken.first_free.Given as goal

abbrev pub invariant-loop-before : goal.invariant-loop-before
invariant-loop-before l =
    free_number (taken_names l.self) l.stem (length (taken_names l.self) - l.before) (l.before + 1) ≡ free_number (taken_names l.self) l.stem (length (taken_names l.self)) 1
