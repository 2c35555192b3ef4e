use Rattle.std.proofs.Common.{◌∙◌, sym, ap, map, arith}
use Rattle.pg_terms.specs.View.{formula}
use Rattle.pg_gametext.specs.Reading.{binder}
use Rattle.pg_faults.specs.View.{found}
use Rattle.pg_states.proofs.Counted.{many, high, fitting}
use Rattle.pg_states.proofs.sizes.size_fault.Goals as goal

pub returns-then-nodes-gt-NODE_LIMIT : goal.returns-then-nodes-gt-NODE_LIMIT
returns-then-nodes-gt-NODE_LIMIT c =
    ap found c.limit.ensures
    ∙ sym (many c.args.at (map binder c.args.binders.now) (formula c.args.target.now) c.nodes_in-nodes.result c.nodes_in-nodes.ensures
    (omega (arith, c.if-nodes-gt-NODE_LIMIT.true)) (omega (arith, c.if-nodes.false)))

pub returns-then-height-gt-HEIGHT_LIMIT : goal.returns-then-height-gt-HEIGHT_LIMIT
returns-then-height-gt-HEIGHT_LIMIT c =
    ap found c.limit-then-height-gt-HEIGHT_LIMIT.ensures
    ∙ sym (high c.args.at (map binder c.args.binders.now) (formula c.args.target.now) c.nodes_in-nodes.result c.height_in-height.result c.nodes_in-nodes.ensures
    (omega (arith, c.if-nodes-gt-NODE_LIMIT.false)) c.height_in-height.ensures (omega (arith, c.if-height-gt-HEIGHT_LIMIT.true))
    (omega (arith, c.height_in-height.ensures, c.if-height.false)))

pub returns : goal.returns
returns c =
    sym (fitting c.args.at (map binder c.args.binders.now) (formula c.args.target.now) c.nodes_in-nodes.result c.height_in-height.result c.nodes_in-nodes.ensures
    (omega (arith, c.if-nodes-gt-NODE_LIMIT.false)) c.height_in-height.ensures (omega (arith, c.if-height-gt-HEIGHT_LIMIT.false)))
