use Rattle.pg_runs.proofs.Playing.{hint_goes}
use Rattle.pg_runs.proofs.running.hint.Goals as goal

pub returns-clause-runs : goal.returns-clause-runs
returns-clause-runs c l = hint_goes l c.args.number c.args.state.now c.if-is_empty.false c.is_empty.ensures.1
