use Rattle.pg_compiled.proofs.Good.{whole-law}
use Rattle.pg_compiled.proofs.whole_law.Goals as goal

pub returns : goal.returns
returns c = whole-law
