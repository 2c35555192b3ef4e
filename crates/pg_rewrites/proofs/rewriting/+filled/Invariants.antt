use Rattle.std.proofs.Common.{length}
use Rattle.pg_rewrites.proofs.rewriting.+filled.Given as goal

abbrev pub decreases-filled : goal.decreases-filled
decreases-filled l = length l.by.now
