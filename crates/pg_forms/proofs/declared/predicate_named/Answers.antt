use Rattle.std.proofs.Common.{◌∙◌, ap, sym}
use Rattle.pg_base.specs.Tokens.{word}
use Rattle.pg_script.specs.View.{words}
use Rattle.pg_gametext.specs.Forms.{predicate_params}
use Rattle.pg_forms.specs.Taken.{parameters_or_none}
use Rattle.pg_forms.proofs.Joins.{with_body, predicate_joined}
use Rattle.pg_forms.proofs.declared.predicate_named.Goals as goal

pub returns : goal.returns
returns c =
    let p = word c.args.name in
    let params = c.parameters_or_none-params.result in
    ap (λ two. predicate_params c.args.end p (parameters_or_none two c.args.end (words c.args.tokens.now))) (sym c.fits.ensures)
    ∙ ap (predicate_params c.args.end p) c.parameters_or_none-params.ensures
    ∙ predicate_joined p (words params.names.now) c.args.end params.rest
    ∙ ap (with_body p (words params.names.now)) c.body_told-body.ensures
