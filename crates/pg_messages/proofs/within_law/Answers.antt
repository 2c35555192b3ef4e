use Rattle.pg_messages.proofs.Laws.{within}
use Rattle.pg_messages.proofs.within_law.Goals as goal

pub returns : goal.returns
returns c = within
