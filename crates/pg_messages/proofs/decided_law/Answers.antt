use Rattle.pg_messages.proofs.Laws.{decided}
use Rattle.pg_messages.proofs.decided_law.Goals as goal

pub returns : goal.returns
returns c = decided
