use Rattle.pg_runs.proofs.Lexed.{script_read}
use Rattle.pg_runs.proofs.laws.script_law.Goals as goal

pub returns : goal.returns
returns c = script_read
