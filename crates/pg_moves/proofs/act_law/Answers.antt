use Rattle.pg_moves.proofs.Lawful.{act-law}
use Rattle.pg_moves.proofs.act_law.Goals as goal

pub returns : goal.returns
returns c = act-law
