use Rattle.pg_gametext.proofs.Stuck.{names_stuck-law}
use Rattle.pg_gametext.proofs.names_stuck_law.Goals as goal

pub returns : goal.returns
returns c = names_stuck-law
