use Rattle.std.proofs.Common.{◌≡◌, drop, map}
use Rattle.std.specs.Prelude.{flat_map}
use Rattle.pg_moves.specs.Measures.{first_over, goal_measures}
use Rattle.pg_goal.specs.View.{goal_of}
use Rattle.pg_reduction.proofs.limits.large_goals.Given as goal

abbrev pub invariant-loop-goal : goal.invariant-loop-goal
invariant-loop-goal l = first_over (flat_map goal_measures (map goal_of l.goals)) ≡ first_over (flat_map goal_measures (map goal_of (drop l.goal-index l.goals)))
