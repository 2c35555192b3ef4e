use Rattle.pg_messages.proofs.Laws.{stays}
use Rattle.pg_messages.proofs.stays_law.Goals as goal

pub returns : goal.returns
returns c = stays
