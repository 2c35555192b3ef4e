use Rattle.pg_moves.proofs.Lawful.{closed-run-law}
use Rattle.pg_moves.proofs.closed_run_law.Goals as goal

pub returns : goal.returns
returns c = closed-run-law
