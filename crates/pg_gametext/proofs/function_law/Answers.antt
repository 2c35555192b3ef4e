use Rattle.pg_gametext.proofs.Recursions.{function-law}
use Rattle.pg_gametext.proofs.function_law.Goals as goal

pub returns : goal.returns
returns c = function-law
