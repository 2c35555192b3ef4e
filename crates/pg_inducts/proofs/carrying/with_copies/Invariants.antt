use Rattle.std.proofs.Common.{◌≡◌, drop, map}
use Rattle.pg_terms.specs.View.{term}
use Rattle.pg_moves.specs.Holding.{carried_from}
use Rattle.pg_moves.specs.Inducting.{with_copies}
use Rattle.pg_goal.specs.View.{goal_of, hyp_of}
use Rattle.pg_inducts.proofs.carrying.with_copies.Given as goal

abbrev pub invariant-loop-hyp : goal.invariant-loop-hyp
invariant-loop-hyp l =
    with_copies l.k (term l.t) (carried_from l.k l.hyp-index (map hyp_of (drop l.hyp-index l.goal.hyps))) (goal_of l.next)
    ≡ with_copies l.k (term l.t) (carried_from l.k 0 (map hyp_of l.goal.hyps)) (goal_of l.fn.rest)
