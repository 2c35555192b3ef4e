use Rattle.std.proofs.Common.{length}
use Rattle.pg_syntax.proofs.statement.+closed_from.Given as goal

abbrev pub decreases-closed_from : goal.decreases-closed_from
decreases-closed_from l = length l.binders.now
