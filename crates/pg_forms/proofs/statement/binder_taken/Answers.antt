use Rattle.std.proofs.Common.{◌∙◌, ap}
use Rattle.pg_script.specs.View.{words}
use Rattle.pg_forms.specs.Taken.{first_taken}
use Rattle.pg_forms.proofs.Bindings.{opened_here, not_opened}
use Rattle.pg_forms.proofs.statement.binder_taken.Goals as goal

pub returns-in-Ok : goal.returns-in-Ok
returns-in-Ok c =
    λ more. opened_here c.args.end more (words c.args.tokens.now) (words c.in-Ok.behind.now) _ (c.token_taken.ensures.taken ∙ ap first_taken c.in-Ok.is) ∙ c.binder_opened.ensures (words c.args.tokens.now) more

pub returns-in-Err : goal.returns-in-Err
returns-in-Err c = λ more. not_opened c.args.end more (words c.args.tokens.now) _ (c.token_taken.ensures.taken ∙ ap first_taken c.in-Err.is)
