use Rattle.pg_meaning.proofs.Fitting.{formula-fit}
use Rattle.pg_meaning.proofs.formula_fit_law.Goals as goal

pub returns : goal.returns
returns c = formula-fit
