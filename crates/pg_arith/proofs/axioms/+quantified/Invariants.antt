use Rattle.std.proofs.Common.{length}
use Rattle.pg_arith.proofs.axioms.+quantified.Given as goal

abbrev pub decreases-quantified : goal.decreases-quantified
decreases-quantified l = length l.names.now
