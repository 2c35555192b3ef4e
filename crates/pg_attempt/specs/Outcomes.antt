-- The outcome that the Rust type stands for.
use Rattle.pg_moves.specs.Runs as runs
use Rattle.pg_reduction.specs.View.{cause_of}
use Rattle.pg_runs.specs.State.{goals_of}
use Rattle.pg_runs.specs.declared.running.Outcome.{Outcome}
use Rattle.pg_runs.specs.declared.running.Outcome.TheVariants.{Closed, Unfinished, Stopped}
use Rattle.pg_runs.specs.declared.running.Stop.{Stop}

-- where a run stops, and why
abbrev pub stop_of : Stop → runs.Stop
stop_of s = record { item = s.item; part = s.part; cause = cause_of s.cause; goals = goals_of s.goals }

-- an outcome
abbrev pub outcome_of : Outcome → runs.Outcome
outcome_of (Closed c) = runs.Closed
outcome_of (Unfinished gs) = runs.Open (goals_of gs)
outcome_of (Stopped s) = runs.Stopped (stop_of s)
