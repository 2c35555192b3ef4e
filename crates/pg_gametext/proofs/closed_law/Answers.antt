use Rattle.pg_gametext.proofs.Reader.{closed-law}
use Rattle.pg_gametext.proofs.closed_law.Goals as goal

pub returns : goal.returns
returns c = closed-law
