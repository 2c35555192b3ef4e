use Rattle.pg_spelling.proofs.Fresh.{fresh-law}
use Rattle.pg_spelling.proofs.fresh_law.Goals as goal

pub returns : goal.returns
returns c = fresh-law
