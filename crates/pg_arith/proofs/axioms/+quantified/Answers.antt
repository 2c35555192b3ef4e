use Rattle.std.proofs.Common.{ap, sym, ◌∙◌}
use Rattle.std.proofs.lemmas.Result.{IfOk-weaker}
use Rattle.pg_logic.specs.Tree.{all}
use Rattle.pg_terms.specs.View.{formula}
use Rattle.pg_arith.proofs.Lists.{quantified_first}
use Rattle.pg_arith.proofs.axioms.+quantified.Goals as goal

pub returns-in_ok-a-in-len1-up : goal.returns-in_ok-a-in-len1-up
returns-in_ok-a-in-len1-up t c =
    let names = c.args.names.now in
    let first = quantified_first names c.in_ok-name-in-len1-up.name c.name-item.result (formula c.args.body) c.in-len1-up.len_at_least c.in_ok-name-in-len1-up.ensures c.name-item.is in
    let name = c.in_ok-name-in-len1-up.name in
    IfOk-weaker c.for_all.result _ _ (λ x e. e ∙ ap (all name) c.in_ok-a-in-len1-up.ensures ∙ sym first) c.for_all.ensures
