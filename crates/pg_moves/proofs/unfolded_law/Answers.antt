use Rattle.pg_moves.proofs.Unfolding.{unfolded-law}
use Rattle.pg_moves.proofs.unfolded_law.Goals as goal

pub returns : goal.returns
returns c = unfolded-law
