use Rattle.std.proofs.Common.{◌∙◌, ap}
use Rattle.pg_script.specs.View.{words}
use Rattle.pg_forms.specs.Taken.{first_taken}
use Rattle.pg_forms.proofs.Bindings.{typed_nat, typed_other}
use Rattle.pg_forms.proofs.statement.binder_typed.Goals as goal

pub returns-in-Ok : goal.returns-in-Ok
returns-in-Ok c = λ more. typed_nat c.args.end (words c.args.names.now) more (words c.args.tokens.now) (words c.in-Ok.rest.now) _ (c.token_taken.ensures.taken ∙ ap first_taken c.in-Ok.is)

pub returns-in-Err : goal.returns-in-Err
returns-in-Err c = λ more. typed_other c.args.end (words c.args.names.now) more (words c.args.tokens.now) _ (c.token_taken.ensures.taken ∙ ap first_taken c.in-Err.is) ∙ c.hypothesis_named.ensures more
