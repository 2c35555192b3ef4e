use Rattle.std.proofs.Common.{◌≡◌, ◌+◌, ◌≤◌, drop, length, map}
use Rattle.pg_logic.specs.Tree.{closed_over_formula}
use Rattle.pg_moves.specs.Frames.{gives_all}
use Rattle.pg_moves.specs.Holding.{carried_from, before}
use Rattle.pg_terms.specs.View.{formula}
use Rattle.pg_goal.specs.View.{hyp_of}
use Rattle.pg_frames.specs.View.{frames_of}
use Rattle.pg_inducts.proofs.carrying.take_along.Given as goal

abbrev pub invariant-loop-left : goal.invariant-loop-left
invariant-loop-left l = record {
  within : l.left + l.count ≤ length l.goal.hyps;
  body : formula l.body ≡ closed_over_formula l.k (before (carried_from l.k l.left (map hyp_of (drop l.left l.goal.hyps))) (formula l.goal.target));
  gives : frames_of l.gives ≡ gives_all (carried_from l.k l.left (map hyp_of (drop l.left l.goal.hyps)));
  count : l.count ≡ length (carried_from l.k l.left (map hyp_of (drop l.left l.goal.hyps)));
}

abbrev pub decreases-loop-left : goal.decreases-loop-left
decreases-loop-left l = l.left
