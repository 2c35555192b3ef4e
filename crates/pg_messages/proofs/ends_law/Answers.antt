use Rattle.pg_messages.proofs.Laws.{ends}
use Rattle.pg_messages.proofs.ends_law.Goals as goal

pub returns : goal.returns
returns c = ends
