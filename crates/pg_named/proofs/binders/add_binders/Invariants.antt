use Rattle.std.proofs.Common.{◌≡◌, ◌++◌, drop, map, reverse}
use Rattle.pg_forms.specs.View.{binder}
use Rattle.pg_gametext.specs.Before.{bound_name, all_binder_words}
use Rattle.pg_named.specs.View.{given}
use Rattle.pg_named.proofs.binders.add_binders.Given as goal

abbrev pub invariant-loop-index : goal.invariant-loop-index
invariant-loop-index l =
    map given (reverse l.bound.items) ≡ map bound_name (all_binder_words (map binder (drop l.index l.binders))) ++ map given (reverse l.initial.bound.items)
