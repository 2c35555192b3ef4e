use Rattle.pg_messages.proofs.Splits.{last-stays}
use Rattle.pg_messages.proofs.last_law.Goals as goal

pub returns : goal.returns
returns c = last-stays
