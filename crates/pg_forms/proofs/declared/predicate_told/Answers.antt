use Rattle.std.proofs.Common.{◌∙◌, ap}
use Rattle.pg_base.specs.Tokens.{word}
use Rattle.pg_script.specs.View.{words}
use Rattle.pg_gametext.specs.Forms.{predicate_named}
use Rattle.pg_forms.specs.Taken.{first_taken}
use Rattle.pg_forms.proofs.Joins.{predicate_begun}
use Rattle.pg_forms.proofs.declared.predicate_told.Goals as goal

pub returns-in-Ok : goal.returns-in-Ok
returns-in-Ok c =
    ap (predicate_named c.args.end) (c.token_taken.ensures.taken ∙ ap first_taken c.in-Ok.is) ∙ predicate_begun (word c.in-Ok.name) c.args.end (words c.in-Ok.rest.now) ∙ c.predicate_named.ensures
