use Rattle.pg_moves.proofs.Instanced.{term-instance-law}
use Rattle.pg_moves.proofs.term_instance_law.Goals as goal

pub returns : goal.returns
returns c = term-instance-law
