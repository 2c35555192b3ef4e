use Rattle.std.proofs.Common.{length}
use Rattle.pg_script.proofs.expression.+expr_at.Given as goal

abbrev pub decreases-expr_at : goal.decreases-expr_at
decreases-expr_at l = length l.tokens.now
