use Rattle.std.proofs.Common.{◌≡◌, ◌≤◌, drop, length, map}
use Rattle.pg_logic.specs.Tree.{free, succ, closed_over_formula}
use Rattle.pg_moves.specs.Holding.{carried_from, before, put_for}
use Rattle.pg_terms.specs.View.{formula}
use Rattle.pg_goal.specs.View.{hyp_of}
use Rattle.pg_inducts.proofs.casing.at_successors.Given as goal

abbrev pub invariant-loop-left : goal.invariant-loop-left
invariant-loop-left l = record {
  within : l.left ≤ length l.goal.hyps;
  body : formula l.body ≡ closed_over_formula l.newest (put_for l.k (succ (free l.newest)) (before (carried_from l.k l.left (map hyp_of (drop l.left l.goal.hyps))) (formula l.goal.target)));
}

abbrev pub decreases-loop-left : goal.decreases-loop-left
decreases-loop-left l = l.left
