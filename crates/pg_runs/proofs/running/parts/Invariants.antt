use Rattle.std.proofs.Common.{◌≡◌, ◌-◌}
use Rattle.pg_script.specs.View.{step as move_in, shape}
use Rattle.pg_script.specs.Blocks.{steps_of}
use Rattle.pg_moves.specs.Runs.{run_parts}
use Rattle.pg_goal.specs.View.{lookup_of}
use Rattle.pg_runs.specs.State.{goals_of, Carries}
use Rattle.pg_runs.proofs.running.parts.Given as goal

abbrev pub invariant-loop-part : goal.invariant-loop-part
invariant-loop-part m l =
    (run_parts (lookup_of l.lookup) l.number (move_in l.step) (steps_of (shape l.step.form)) 0 (goals_of l.initial.state.goals)
    ≡ run_parts (lookup_of l.lookup) l.number (move_in l.step) (steps_of (shape l.step.form) - l.part) l.part (goals_of l.state.goals))
    × Carries (lookup_of l.lookup) l.part l.initial.state l.state
