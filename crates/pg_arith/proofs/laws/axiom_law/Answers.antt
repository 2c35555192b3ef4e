use Rattle.pg_logic.proofs.AxiomTruth.{true-axiom}
use Rattle.pg_arith.proofs.laws.axiom_law.Goals as goal

pub returns : goal.returns
returns c = λ d a id x e. true-axiom d a id x e
