use Rattle.pg_gametext.proofs.Constants.{predicate-law}
use Rattle.pg_gametext.proofs.predicate_law.Goals as goal

pub returns : goal.returns
returns c = predicate-law
