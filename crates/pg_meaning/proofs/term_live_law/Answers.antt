use Rattle.pg_meaning.proofs.Living.{term-live}
use Rattle.pg_meaning.proofs.term_live_law.Goals as goal

pub returns : goal.returns
returns c = term-live
