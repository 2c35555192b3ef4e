use Rattle.pg_meaning.proofs.Living.{formula-live}
use Rattle.pg_meaning.proofs.formula_live_law.Goals as goal

pub returns : goal.returns
returns c = formula-live
