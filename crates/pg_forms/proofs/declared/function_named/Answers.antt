use Rattle.std.proofs.Common.{◌∙◌, ap, sym}
use Rattle.pg_base.specs.Tokens.{word}
use Rattle.pg_script.specs.View.{words}
use Rattle.pg_gametext.specs.Forms.{function_params, parameters_taken}
use Rattle.pg_forms.proofs.Joins.{with_equations, function_joined}
use Rattle.pg_forms.proofs.declared.function_named.Goals as goal

pub returns : goal.returns
returns c =
    let f = word c.args.name in
    let params = c.parameters_taken-params.result in
    ap (λ two. function_params c.args.end f (parameters_taken two c.args.end (words c.args.tokens.now))) (sym c.fits.ensures)
    ∙ ap (function_params c.args.end f) c.parameters_taken-params.ensures
    ∙ function_joined f (words params.names.now) c.args.end params.rest
    ∙ ap (with_equations f (words params.names.now)) c.equations_told-equations.ensures
