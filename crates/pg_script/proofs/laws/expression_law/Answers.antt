use Rattle.pg_script.proofs.Phrases.{exact_found, exact_read}
use Rattle.pg_script.proofs.laws.expression_law.Goals as goal

pub returns : goal.returns
returns c = λ end ws e. (exact_found end ws e, exact_read end ws e)
