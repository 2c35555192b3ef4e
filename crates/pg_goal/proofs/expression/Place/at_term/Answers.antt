use Rattle.std.proofs.Common.{◌∙◌, ◌-◌, ◌^◌, min, ap, arith, rules}
use Rattle.pg_logic.specs.Tree.{nodes, nodes_of, opened_formula}
use Rattle.pg_terms.specs.View as trees
use Rattle.pg_kernel.specs.View as kernel
use Rattle.pg_script.specs.View.{part}
use Rattle.pg_goal.specs.Places.{look, spot}
use Rattle.pg_goal.proofs.Sizes.{opened_exact}
use Rattle.pg_goal.proofs.Arguments.{too_large, at_term_held}
use Rattle.pg_goal.proofs.expression.Place.at_term.Goals as goal

pub returns-then-size-gt-NODES_LIMIT-clause-gives : goal.returns-then-size-gt-NODES_LIMIT-clause-gives
returns-then-size-gt-NODES_LIMIT-clause-gives c =
    let t = trees.term c.in_ok-by_term.by_term in
    let size = opened_exact (trees.formula c.args.body) t c.size.result c.opened_size-size.result c.requires.few c.in_ok-by_term.ensures.few
    (c.size.ensures ∙ ap (λ b. min (nodes (trees.term b)) (2 ^ 64 - 1)) c.get-2.ensures)
    (λ s e. c.opened_size-size.ensures s e ∙ ap (λ b. min (nodes_of (opened_formula s (trees.formula b))) (2 ^ 64 - 1)) c.get.ensures) in
    too_large (look c.args.self.now) (spot c.args.self.now) (trees.formula c.args.body) (part c.args.arg.now) t c.opened_size-size.result c.in_ok-by_term.ensures.read size
    (omega (arith, c.if-size-gt-NODES_LIMIT.true))

pub returns-clause-held : goal.returns-clause-held
returns-clause-held c =
    let t = trees.term c.in_ok-by_term.by_term in
    let size = opened_exact (trees.formula c.args.body) t c.size.result c.opened_size-size.result c.requires.few c.in_ok-by_term.ensures.few
    (c.size.ensures ∙ ap (λ b. min (nodes (trees.term b)) (2 ^ 64 - 1)) c.get-2.ensures)
    (λ s e. c.opened_size-size.ensures s e ∙ ap (λ b. min (nodes_of (opened_formula s (trees.formula b))) (2 ^ 64 - 1)) c.get.ensures) in
    at_term_held c.args.self.now (trees.formula c.args.body) t (kernel.proof c.args.by) (record { formula = c.in_ok-formula.formula; proof = c.in_ok-proof.proof })
    c.requires.proved c.in_ok-by_term.ensures.fits (search rules) c.in_ok-proof.ensures (omega (arith, size, c.if-size-gt-NODES_LIMIT.false))
