use Rattle.std.proofs.Common.{◌≡◌, [], drop, map, None}
use Rattle.pg_arith.specs.View.{declarations}
use Rattle.pg_forms.specs.View.{binder}
use Rattle.pg_gametext.specs.Reading.{binders_read}
use Rattle.pg_states.specs.Drafts.{variables_of, AreLive, with_rest, known}
use Rattle.pg_states.proofs.draft.binders_read.Given as goal

abbrev pub invariant-loop-binder : goal.invariant-loop-binder
invariant-loop-binder l =
    AreLive l.draft
    × (with_rest l.draft (binders_read (declarations l.sig) (variables_of l.draft) (map binder (drop l.binder-index l.binders))) ≡ known [] None (binders_read (declarations l.sig) [] (map binder l.binders)))
