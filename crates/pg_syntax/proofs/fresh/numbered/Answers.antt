use Rattle.std.proofs.Common.{◌≡◌, ◌≢◌, ◌∙◌, sym, [], arith, string_bytes, String, Global}
use Rattle.pg_spelling.specs.Fresh.{numbered}
use Rattle.pg_syntax.proofs.Lists.{decimal-some}
use Rattle.pg_syntax.proofs.Weights.{if_ok}
use Rattle.pg_syntax.proofs.fresh.numbered.Goals as goal

pub returns-clause-some : goal.returns-clause-some
returns-clause-some c =
    if_ok c.format.result (λ (made : String Global). string_bytes made ≡ numbered c.args.stem.now c.args.number) (λ (made : String Global). string_bytes made ≢ [])
    (λ made e z. decimal-some c.args.stem.now c.args.number (omega arith) (sym e ∙ z)) c.format.ensures.ok
