use Rattle.std.proofs.Common.{length}
use Rattle.pg_heads.proofs.read.+find.Given as goal

abbrev pub decreases-find : goal.decreases-find
decreases-find l = length l.headers.now
