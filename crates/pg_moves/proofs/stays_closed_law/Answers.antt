use Rattle.pg_moves.proofs.Lawful.{stays-closed-law}
use Rattle.pg_moves.proofs.stays_closed_law.Goals as goal

pub returns : goal.returns
returns c = stays-closed-law
