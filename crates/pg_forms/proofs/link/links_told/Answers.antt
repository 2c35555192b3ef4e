use Rattle.std.proofs.Common.{◌≡◌, ◌∙◌, ap, sym, subst, IfOk, List}
use Rattle.pg_base.specs.Tokens.{word}
use Rattle.pg_script.specs.View.{words}
use Rattle.pg_gametext.specs.Forms.{Told, Link}
use Rattle.pg_forms.specs.View.{told, links}
use Rattle.pg_forms.specs.Taken.{first_taken}
use Rattle.pg_forms.proofs.Chains.{links_begun}
use Rattle.pg_forms.proofs.link.links_told.Goals as goal

pub returns-in-Ok : goal.returns-in-Ok
returns-in-Ok c =
    let P = λ (x : Told (List Link)). IfOk c.links_after.result (λ t. x ≡ told links t) in
    subst P (sym (links_begun c.args.end (words c.args.tokens.now) (words c.in-Ok.rest.now) (word c.in-Ok.first) (c.token_taken.ensures.taken ∙ ap first_taken c.in-Ok.is))) c.links_after.ensures
