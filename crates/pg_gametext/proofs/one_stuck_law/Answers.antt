use Rattle.pg_gametext.proofs.Stuck.{one_stuck-law}
use Rattle.pg_gametext.proofs.one_stuck_law.Goals as goal

pub returns : goal.returns
returns c = one_stuck-law
