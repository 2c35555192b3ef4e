use Rattle.std.proofs.Common.{get_or, length, arith, ap, sym, ◌∙◌, subst}
use Rattle.pg_terms.specs.View.{formula}
use Rattle.pg_inducts.specs.Carrying.{IsClosable}
use Rattle.pg_inducts.proofs.Held.{formula-at}
use Rattle.pg_inducts.proofs.carrying.with_copies.Goals as goal

pub put_for-requires : goal.put_for-requires
put_for-requires c =
    let h = c.hyp-item.result in
    subst (λ a. IsClosable (formula a)) (sym c.get-then-holds_var.ensures)
    (formula-at IsClosable c.args.goal.now.hyps c.loop-hyp.hyp-index h c.requires (omega (arith, c.loop-hyp-test.true, ap length c.as_slice-hyp-items.ensures))
    (c.hyp-item.is ∙ ap (λ hs. get_or hs c.loop-hyp.hyp-index h) c.as_slice-hyp-items.ensures))
