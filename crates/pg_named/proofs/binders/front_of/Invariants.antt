use Rattle.std.proofs.Common.{◌≡◌, ◌++◌, drop, map}
use Rattle.pg_forms.specs.View.{binder}
use Rattle.pg_script.specs.View.{words}
use Rattle.pg_gametext.specs.Before.{all_binder_words}
use Rattle.pg_named.specs.Bound.{up_to}
use Rattle.pg_named.proofs.binders.front_of.Given as goal

abbrev pub invariant-loop-binder : goal.invariant-loop-binder
invariant-loop-binder l =
    words l.front.items ++ up_to l.last (all_binder_words (map binder (drop l.binder-index l.binders))) ≡ up_to l.last (all_binder_words (map binder l.binders))
