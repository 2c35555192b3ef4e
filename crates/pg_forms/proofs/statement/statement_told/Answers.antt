use Rattle.std.proofs.Common.{◌∙◌, ap, map, option_map}
use Rattle.std.proofs.lemmas.List.{length-map}
use Rattle.pg_base.specs.Tokens.{word}
use Rattle.pg_script.specs.View.{words}
use Rattle.pg_gametext.specs.Forms.{statement_binders, binders_taken}
use Rattle.pg_forms.specs.View.{binder}
use Rattle.pg_forms.proofs.Bindings.{after_name, after_text, name_told, text_told}
use Rattle.pg_forms.proofs.statement.statement_told.Goals as goal

pub returns : goal.returns
returns c =
    let end = c.args.end in
    let behind = c.optional_taken.result.1.now in
    let rest = c.optional_taken-2.result.1.now in
    let name = option_map word c.optional_taken-2.result.0 in
    text_told end (words c.args.tokens.now)
    ∙ ap (after_text end) c.optional_taken.ensures
    ∙ name_told end (words behind)
    ∙ ap (after_name end) c.optional_taken-2.ensures
    ∙ ap (λ n. statement_binders end name (binders_taken n end (words rest))) (length-map rest word)
    ∙ ap (statement_binders end name) c.in_ok-binders.ensures
    ∙ c.claim_told-claim.ensures name (map binder c.in_ok-binders.binders.list.items)
