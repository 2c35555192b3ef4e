use Rattle.std.proofs.Common.{◌≡◌, drop, map}
use Rattle.pg_forms.specs.View.{binder}
use Rattle.pg_gametext.specs.Faults.{Hypotheses, hypothesis_limit}
use Rattle.pg_gametext.specs.Checks.{hypothesis_words}
use Rattle.pg_named.specs.Bound.{room_behind}
use Rattle.pg_named.proofs.binders.hypotheses_over.Given as goal

abbrev pub invariant-loop-binder : goal.invariant-loop-binder
invariant-loop-binder l =
    room_behind Hypotheses hypothesis_limit l.room (hypothesis_words (map binder (drop l.binder-index l.binders))) ≡ room_behind Hypotheses hypothesis_limit hypothesis_limit (hypothesis_words (map binder l.binders))
