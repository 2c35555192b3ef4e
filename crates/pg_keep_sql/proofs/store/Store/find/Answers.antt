use Rattle.sqlite.specs.Files.{file_state}
use Rattle.sqlite.specs.Held.{state}
use Rattle.sqlite.specs.Steps.{over_memory}
use Rattle.pg_keep_sql.proofs.Told.{still-selects}
use Rattle.pg_keep_sql.proofs.store.Store.find.Goals as goal

pub returns-in-File : goal.returns-in-File
returns-in-File c = rw (c.in-File.is, c.answered.ensures) (still-selects c.args.player.now c.find.result
    (file_state c.in-File.conn) (file_state c.find.new.conn) c.find.ensures.rows c.find.ensures.fails)

pub returns-in-Memory : goal.returns-in-Memory
returns-in-Memory c = rw (c.in-Memory.is, c.answered-in-Memory.ensures) (still-selects c.args.player.now c.find-in-Memory.result
    (state over_memory c.in-Memory.conn) (state over_memory c.find-in-Memory.new.conn) c.find-in-Memory.ensures.rows c.find-in-Memory.ensures.fails)
