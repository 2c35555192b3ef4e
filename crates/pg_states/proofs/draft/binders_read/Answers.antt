use Rattle.std.proofs.Common.{◌+◌, ◌∙◌, List, ap, sym, map, drop}
use Rattle.pg_arith.specs.View.{declarations}
use Rattle.pg_forms.specs.declared.parts.BinderText.{BinderText}
use Rattle.pg_forms.specs.View.{binder}
use Rattle.pg_gametext.specs.Reading.{binders_read}
use Rattle.pg_states.specs.Drafts.{variables_of, with_rest}
use Rattle.pg_states.proofs.Drafting.{dropped}
use Rattle.pg_states.proofs.draft.binders_read.Goals as goal

pub add-requires : goal.add-requires
add-requires c = c.requires c.loop-binder.binder-index _ c.loop-binder-test.true

pub loop-binder-preserved : goal.loop-binder-preserved
loop-binder-preserved c = (
  c.in_ok-add.ensures.live c.loop-binder.invariant.0,
  c.in_ok-add.ensures.known c.loop-binder.invariant.0 (map binder (drop (c.loop-binder.binder-index + 1) c.args.binders.now))
      ∙ ap (λ (bs : List BinderText). with_rest c.loop-binder.draft (binders_read (declarations c.args.sig.now) (variables_of c.loop-binder.draft) (map binder bs)))
      (sym (dropped c.args.binders.now c.loop-binder.binder-index _ c.loop-binder-test.true))
      ∙ c.loop-binder.invariant.1,
)
