use Rattle.pg_moves.proofs.Instanced.{formula-instance-law}
use Rattle.pg_moves.proofs.formula_instance_law.Goals as goal

pub returns : goal.returns
returns c = formula-instance-law
