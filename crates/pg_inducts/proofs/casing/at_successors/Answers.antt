use Rattle.std.proofs.Common.{◌-◌, get_or, length, arith, ap, sym, ◌∙◌, subst}
use Rattle.std.proofs.lemmas.List.{length-map}
use Rattle.pg_goal.specs.View.{var_of}
use Rattle.pg_terms.specs.View.{formula}
use Rattle.pg_inducts.specs.Carrying.{IsClosable, CanStep}
use Rattle.pg_inducts.proofs.Held.{formula-at}
use Rattle.pg_inducts.proofs.casing.at_successors.Goals as goal

pub at_successor-requires-then-holds_var-clause-closable : goal.at_successor-requires-then-holds_var-clause-closable
at_successor-requires-then-holds_var-clause-closable c =
    let h = c.index-hyps-left.result in
    subst (λ a. IsClosable (formula a)) (sym c.get-then-holds_var.ensures)
    (formula-at IsClosable c.args.goal.now.hyps (c.loop-left.left - 1) h c.requires.hyps (omega (arith, c.loop-left-test.true, c.loop-left.invariant.within))
    (c.index-hyps-left.is ∙ ap (λ hs. get_or hs (c.loop-left.left - 1) h) c.as_slice-hyps.ensures))

pub at_successor-requires-then-holds_var-clause-step : goal.at_successor-requires-then-holds_var-clause-step
at_successor-requires-then-holds_var-clause-step c =
    let h = c.index-hyps-left.result in
    let n = length c.args.goal.now.vars in
    subst (λ m. CanStep c.args.k m (formula c.get-then-holds_var.result.now)) (sym (c.var_count-newest.ensures ∙ length-map c.args.goal.now.vars var_of))
    (subst (λ a. CanStep c.args.k n (formula a)) (sym c.get-then-holds_var.ensures)
    (formula-at (CanStep c.args.k n) c.args.goal.now.hyps (c.loop-left.left - 1) h c.requires.step_hyps (omega (arith, c.loop-left-test.true, c.loop-left.invariant.within))
    (c.index-hyps-left.is ∙ ap (λ hs. get_or hs (c.loop-left.left - 1) h) c.as_slice-hyps.ensures)))
