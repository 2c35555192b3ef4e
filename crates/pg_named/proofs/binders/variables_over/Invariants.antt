use Rattle.std.proofs.Common.{◌≡◌, drop, map}
use Rattle.pg_forms.specs.View.{binder}
use Rattle.pg_gametext.specs.Faults.{Variables, variable_limit}
use Rattle.pg_gametext.specs.Checks.{variable_words}
use Rattle.pg_named.specs.Bound.{room_behind}
use Rattle.pg_named.proofs.binders.variables_over.Given as goal

abbrev pub invariant-loop-binder : goal.invariant-loop-binder
invariant-loop-binder l =
    room_behind Variables variable_limit l.room (variable_words (map binder (drop l.binder-index l.binders))) ≡ room_behind Variables variable_limit variable_limit (variable_words (map binder l.binders))
