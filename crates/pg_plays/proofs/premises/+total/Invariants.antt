use Rattle.std.proofs.Common.{length}
use Rattle.pg_plays.proofs.premises.+total.Given as goal

abbrev pub decreases-total : goal.decreases-total
decreases-total l = length l.binders.now
