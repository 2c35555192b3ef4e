use Rattle.pg_match.proofs.Lent.{none_more}
use Rattle.pg_match.proofs.matching.no_values.Goals as goal

pub loop-hole-preserved : goal.loop-hole-preserved
loop-hole-preserved c = none_more _ _ _ c.loop-hole.invariant c.in_ok-push.ensures.items
