use Rattle.pg_named.proofs.Places.{turned}
use Rattle.pg_named.proofs.search.first_place.Goals as goal

pub loop-entry-preserved : goal.loop-entry-preserved
loop-entry-preserved c = turned c.args.name.now c.args.declared c.args.entries.now c.loop-entry.entry-index _ c.loop-entry.first _ _ c.loop-entry-test.true c.loop-entry.invariant c.with_entry-first.ensures
