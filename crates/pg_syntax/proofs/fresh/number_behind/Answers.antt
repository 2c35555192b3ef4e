use Rattle.std.proofs.Common.{◌≡◌, ◌∙◌, ◌++◌, ◌≤◌, ap, sym, subst, IfSome, arith, get_or}
use Rattle.std.specs.Prelude.{decimal}
use Rattle.pg_syntax.proofs.Numbers.{behind}
use Rattle.pg_syntax.proofs.fresh.number_behind.Goals as goal

pub returns-in-len1-up : goal.returns-in-len1-up
returns-in-len1-up c =
    let found = c.in_ok-digits.ensures.cases in
    let whole : c.args.name.now ≡ c.args.stem.now ++ c.in_ok-digits.digits.now = found.1.1 ∙ ap (λ ds. c.args.stem.now ++ ds) (sym found.2) in
    let first : 49 ≤ get_or c.in_ok-digits.digits.now 0 0 = subst (λ bs. 49 ≤ get_or bs 0 0) c.as_bytes.ensures.value (omega arith) in
    subst (λ o. IfSome o (λ n. c.args.name.now ≡ c.args.stem.now ++ decimal n)) (sym c.ok.ensures.value)
    (behind c.args.stem.now c.args.name.now c.in_ok-digits.digits.now c.parse.result whole c.parse.ensures.value.0 first)
