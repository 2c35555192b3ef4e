use Rattle.pg_moves.proofs.Counted.{parts-law}
use Rattle.pg_moves.proofs.parts_law.Goals as goal

pub returns : goal.returns
returns c = parts-law
