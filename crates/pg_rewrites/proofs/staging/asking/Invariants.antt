use Rattle.std.proofs.Common.{◌≡◌, ◌++◌, drop, map}
use Rattle.pg_frames.specs.View.{stage_of}
use Rattle.pg_goal.specs.View.{goal_of}
use Rattle.pg_rewrites.specs.Applying.{asking}
use Rattle.pg_rewrites.proofs.staging.asking.Given as goal

abbrev pub invariant-loop-stage : goal.invariant-loop-stage
invariant-loop-stage l = map goal_of l.goals ++ asking (goal_of l.goal) (map stage_of (drop l.stage-index l.stages)) ≡ asking (goal_of l.goal) (map stage_of l.stages)
