use Rattle.pg_moves.proofs.Lawful.{given-law}
use Rattle.pg_moves.proofs.given_law.Goals as goal

pub returns : goal.returns
returns c = given-law
