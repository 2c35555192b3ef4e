use Rattle.pg_messages.proofs.Splits.{one-split}
use Rattle.pg_messages.proofs.one_law.Goals as goal

pub returns : goal.returns
returns c = one-split
