use Rattle.std.proofs.Common.{List, [], ap, map, option_map, subst}
use Rattle.pg_arith.specs.View.{declarations}
use Rattle.pg_forms.specs.View.{statement, binder, part}
use Rattle.pg_gametext.specs.Reading.{binders_read}
use Rattle.pg_forms.specs.declared.parts.BinderText.{BinderText}
use Rattle.pg_states.specs.Drafts.{IsDraftOf}
use Rattle.pg_states.proofs.Ending.{read_as}
use Rattle.pg_states.proofs.statements.read_statement.Goals as goal

pub returns-in-Some : goal.returns-in-Some
returns-in-Some c =
    let h = binders_read (declarations c.args.sig.now) [] (map binder c.args.text.now.binders.items) in
    read_as (declarations c.args.sig.now) c.args.at (statement c.args.text.now) _ c.with_target.result (ap (option_map part) c.in-Some.is)
    (c.with_target.ensures h (subst (λ (bs : List BinderText). IsDraftOf (binders_read (declarations c.args.sig.now) [] (map binder bs)) c.in-Ok.draft) c.as_slice.ensures.value c.in-Ok.ensures))
