use Rattle.std.proofs.Common.{◌∙◌, ◌<◌, List, length, get_or, ap, sym, refl, subst, arith, rules}
use Rattle.pg_terms.specs.View as trees
use Rattle.pg_kernel.specs.View as kernel
use Rattle.pg_script.specs.declared.item.Piece.{Piece}
use Rattle.pg_script.specs.View.{part, expression}
use Rattle.pg_moves.specs.Expressions.{gives}
use Rattle.pg_goal.specs.Places.{look, spot}
use Rattle.pg_goal.proofs.Arguments.{held_all, at_proof_held}
use Rattle.pg_goal.proofs.Inner.{inner_texts, inner_fewer, texts_there, argument_long, name_fault, handed_on, name_first}
use Rattle.pg_goal.proofs.expression.Place.+given.Goals as goal

pub applied-at_term-requires-clause-proved : goal.applied-at_term-requires-clause-proved
applied-at_term-requires-clause-proved t c = held_all c.args.self.now c.args.given _ c.in-All.body (sym c.into_inner.ensures ∙ c.in-All.is) c.requires.held

pub at_proof-given-requires : goal.at_proof-given-requires
at_proof-given-requires t c =
    let fewer = inner_fewer c.args.arg.now (expression c.in_ok-expr.expr) c.in_ok-expr.ensures in
    (omega (arith, c.decreases, fewer), (c.requires.ready, inner_texts (part c.args.arg.now) (expression c.in_ok-expr.expr) c.in_ok-expr.ensures c.requires.texts))

pub at_proof-returns-clause-held : goal.at_proof-returns-clause-held
at_proof-returns-clause-held t c =
    at_proof_held c.args.self.now (trees.formula c.args.left) (trees.formula c.args.right) (trees.formula c.in_ok-inner.inner.formula) (kernel.proof c.args.by) (kernel.proof c.in_ok-inner.inner.proof)
    (record { formula = c.args.right; proof = c.in_ok-proof.proof }) c.requires.proved c.in_ok-inner.ensures.held.0 (search rules) refl c.in_ok-proof.ensures c.requires.few

pub given-returns-in_err-given-clause-gives : goal.given-returns-in_err-given-clause-gives
given-returns-in_err-given-clause-gives t c =
    let l = look c.args.self.now in let g = spot c.args.self.now in let e = expression c.args.expr.now in
    handed_on (gives l g e) c.in_err-given.field-0.0 c.from_residual.result c.from_residual.ensures (name_fault l g e c.in_err-given.field-0.0 c.in_err-given.ensures.gives)

pub given-loop-arg-init : goal.given-loop-arg-init
given-loop-arg-init t c =
    record {
      rest = name_first (look c.args.self.now) (spot c.args.self.now) (expression c.args.expr.now) (trees.formula c.in_ok-given.given.formula) c.in_ok-given.ensures.gives;
      held = c.in_ok-given.ensures.held;
    }

pub given-applied-requires : goal.given-applied-requires
given-applied-requires t c =
    let args = c.args.expr.now.args in
    let lt = subst (λ (xs : List Piece). c.loop-arg.arg-index < length xs) c.as_slice-arg-items.ensures c.loop-arg-test.true in
    let is = c.arg-item.is ∙ ap (λ (xs : List Piece). get_or xs c.loop-arg.arg-index c.arg-item.result) c.as_slice-arg-items.ensures in
    let long = argument_long args c.loop-arg.arg-index c.arg-item.result lt is in (
      omega (arith, c.decreases, long),
      (c.requires.ready, (texts_there args c.loop-arg.arg-index c.arg-item.result lt is c.requires.texts, c.loop-arg.invariant.held)),
    )
