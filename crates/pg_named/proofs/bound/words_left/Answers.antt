use Rattle.std.proofs.Common.{◌∙◌, ap, sym, suc, Err}
use Rattle.pg_base.specs.Tokens.{word}
use Rattle.pg_faults.specs.View.{limit}
use Rattle.pg_gametext.specs.Faults as text
use Rattle.pg_named.proofs.Room.{too_many_at, fits}
use Rattle.pg_named.proofs.bound.words_left.Goals as goal

pub returns-in-Some : goal.returns-in-Some
returns-in-Some c =
    let here = c.in-Some.ensures.lookup in
    let t = c.in-Some.token.now in
    ap Err (c.too_many.ensures ∙ ap (λ w. text.fault (word w).at (text.Limit (limit c.args.what) (suc c.args.limit))) (here.3.1 t))
    ∙ sym (too_many_at (limit c.args.what) c.args.limit c.args.room c.args.tokens.now t here.3.0)

pub returns-in-None : goal.returns-in-None
returns-in-None c = sym (fits (limit c.args.what) c.args.limit c.args.room c.args.tokens.now c.in-None.ensures.lookup.3)
