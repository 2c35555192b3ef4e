use Rattle.std.proofs.Common.{◌≡◌, take}
use Rattle.pg_runs.proofs.moving.copied.Given as goal

abbrev pub invariant-loop-goal : goal.invariant-loop-goal
invariant-loop-goal l = l.copies ≡ take l.goal-index l.goals
