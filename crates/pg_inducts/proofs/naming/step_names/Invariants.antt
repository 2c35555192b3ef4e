use Rattle.std.proofs.Common.{◌≡◌, ◌++◌, drop, map}
use Rattle.pg_moves.specs.Holding.{carried_from}
use Rattle.pg_moves.specs.Inducting.{carried_names, step_names}
use Rattle.pg_goal.specs.View.{goal_of, hyp_of}
use Rattle.pg_inducts.proofs.naming.step_names.Given as goal

abbrev pub invariant-loop-hyp : goal.invariant-loop-hyp
invariant-loop-hyp l =
    l.used ++ carried_names (carried_from l.k l.hyp-index (map hyp_of (drop l.hyp-index l.goal.hyps))) ≡ step_names (goal_of l.goal) l.k (goal_of l.rest)
