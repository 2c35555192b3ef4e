use Rattle.pg_match.proofs.Exchanged.{replaced_turn}
use Rattle.pg_match.proofs.replacing.+terms.Goals as goal

pub changed_all-loop-t-preserved : goal.changed_all-loop-t-preserved
changed_all-loop-t-preserved t c =
    replaced_turn _ _ _ _ _ _ _ _ c.loop-t-test.true c.t-item.is c.in_ok-push.ensures.ok c.loop-t.invariant c.in_ok-changed_term.ensures
