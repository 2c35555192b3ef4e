use Rattle.std.proofs.Common.{◌-◌, ◌^◌}
use Rattle.pg_moves.specs.Measures.{goal_nodes}
use Rattle.pg_goal.specs.View.{goal_of}
use Rattle.pg_reduction.proofs.Large.{sum-done}
use Rattle.pg_runs.proofs.moving.all_nodes.Goals as goal

pub returns : goal.returns
returns c = sum-done goal_of goal_nodes c.args.goals.now c.loop-goal.goal-index c.loop-goal.nodes (2 ^ 64 - 1) _ c.loop-goal-test.false c.loop-goal.invariant.0 c.loop-goal.invariant.1
