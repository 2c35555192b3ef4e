use Rattle.pg_runs.proofs.Read.{items_read}
use Rattle.pg_runs.proofs.laws.items_law.Goals as goal

pub returns : goal.returns
returns c = items_read
