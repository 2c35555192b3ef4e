use Rattle.pg_gametext.proofs.Claimed.{statement-law}
use Rattle.pg_gametext.proofs.statement_law.Goals as goal

pub returns : goal.returns
returns c = statement-law
