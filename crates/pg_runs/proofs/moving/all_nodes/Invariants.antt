use Rattle.std.proofs.Common.{◌≡◌, ◌≤◌, ◌+◌, ◌-◌, ◌^◌, drop, map}
use Rattle.std.specs.Prelude.{min, sum}
use Rattle.pg_moves.specs.Measures.{goal_nodes}
use Rattle.pg_goal.specs.View.{goal_of}
use Rattle.pg_runs.proofs.moving.all_nodes.Given as goal

abbrev pub invariant-loop-goal : goal.invariant-loop-goal
invariant-loop-goal l = (l.nodes ≤ 2 ^ 64 - 1) × (min (l.nodes + sum (map goal_nodes (map goal_of (drop l.goal-index l.goals)))) (2 ^ 64 - 1) ≡ min (sum (map goal_nodes (map goal_of l.goals))) (2 ^ 64 - 1))
