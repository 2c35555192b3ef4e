use Rattle.pg_match.proofs.Lists.{walk_all-length}
use Rattle.pg_match.proofs.walking.+walk.Goals as goal

pub walk_all-returns-then-patterns-subjects : goal.walk_all-returns-then-patterns-subjects
walk_all-returns-then-patterns-subjects t c = λ d e. walk_all-length d _ _ _ c.if-patterns-subjects.true
