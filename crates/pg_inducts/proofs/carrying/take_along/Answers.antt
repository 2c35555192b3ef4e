use Rattle.std.proofs.Common.{◌-◌, get_or, arith, ap, sym, ◌∙◌, subst}
use Rattle.pg_terms.specs.View.{formula}
use Rattle.pg_inducts.specs.Carrying.{IsClosable}
use Rattle.pg_inducts.proofs.Held.{formula-at}
use Rattle.pg_inducts.proofs.carrying.take_along.Goals as goal

pub closed-requires-then-holds_var : goal.closed-requires-then-holds_var
closed-requires-then-holds_var c =
    let h = c.index-hyps-left.result in
    subst (λ a. IsClosable (formula a)) (sym c.get-then-holds_var-2.ensures)
    (formula-at IsClosable c.args.goal.now.hyps (c.loop-left.left - 1) h c.requires.hyps (omega (arith, c.loop-left-test.true, c.loop-left.invariant.within))
    (c.index-hyps-left.is ∙ ap (λ hs. get_or hs (c.loop-left.left - 1) h) c.as_slice-hyps.ensures))
