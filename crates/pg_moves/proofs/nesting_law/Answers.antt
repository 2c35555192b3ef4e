use Rattle.pg_moves.proofs.Counted.{nesting-law}
use Rattle.pg_moves.proofs.nesting_law.Goals as goal

pub returns : goal.returns
returns c = nesting-law
