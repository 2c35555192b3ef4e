use Rattle.pg_meaning.proofs.Fitting.{term-fit}
use Rattle.pg_meaning.proofs.term_fit_law.Goals as goal

pub returns : goal.returns
returns c = term-fit
