use Rattle.std.proofs.Common.{◌≡◌, ◌≤◌, ◌+◌, ◌-◌, ◌^◌, drop, map}
use Rattle.std.specs.Prelude.{min, sum}
use Rattle.pg_logic.specs.Tree.{nodes_of}
use Rattle.pg_reduction.specs.Limits.{hyp_formula}
use Rattle.pg_reduction.proofs.limits.hyp_nodes.Given as goal

abbrev pub invariant-loop-hyp : goal.invariant-loop-hyp
invariant-loop-hyp l = (l.nodes ≤ 2 ^ 64 - 1) × (min (l.nodes + sum (map nodes_of (map hyp_formula (drop l.hyp-index l.hyps)))) (2 ^ 64 - 1) ≡ min (sum (map nodes_of (map hyp_formula l.hyps))) (2 ^ 64 - 1))
