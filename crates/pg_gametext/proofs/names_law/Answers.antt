use Rattle.pg_gametext.proofs.Recursions.{names-law}
use Rattle.pg_gametext.proofs.names_law.Goals as goal

pub returns : goal.returns
returns c = names-law
