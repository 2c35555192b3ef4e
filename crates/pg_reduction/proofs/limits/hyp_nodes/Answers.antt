use Rattle.std.proofs.Common.{◌-◌, ◌^◌}
use Rattle.pg_logic.specs.Tree.{nodes_of}
use Rattle.pg_reduction.specs.Limits.{hyp_formula}
use Rattle.pg_reduction.proofs.Large.{sum-done}
use Rattle.pg_reduction.proofs.limits.hyp_nodes.Goals as goal

pub returns : goal.returns
returns c = sum-done hyp_formula nodes_of c.args.hyps.now c.loop-hyp.hyp-index c.loop-hyp.nodes (2 ^ 64 - 1) _ c.loop-hyp-test.false c.loop-hyp.invariant.0 c.loop-hyp.invariant.1
