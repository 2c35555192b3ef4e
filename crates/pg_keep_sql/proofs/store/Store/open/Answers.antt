use Rattle.std.proofs.Common.{rules, ◌≡◌, Ok}
use Rattle.sqlite.specs.Files.{file_state}
use Rattle.sqlite.specs.Held.{state}
use Rattle.sqlite.specs.Steps.{over_memory}
use Rattle.pg_keep_sql.specs.Store.{told}
use Rattle.pg_keep_sql.proofs.Told.{made}
use Rattle.pg_keep_sql.proofs.store.Store.open.Goals as goal

pub returns-in_ok-answered-in-Some : goal.returns-in_ok-answered-in-Some
returns-in_ok-answered-in-Some c =
    let ran : told c.make_table.result ≡ Ok c.in_ok-answered-in-Some.field-0 = search rules in
    rw c.in-Some.is (made file_state c.in_ok-conn-in-Some.conn c.make_table.new.conn c.make_table.result _ ran c.make_table.ensures)

pub returns-in_ok-answered-in-None : goal.returns-in_ok-answered-in-None
returns-in_ok-answered-in-None c =
    let ran : told c.make_table-in-None.result ≡ Ok c.in_ok-answered-in-None.field-0 = search rules in
    rw c.in-None.is (made (state over_memory) c.in_ok-conn-in-None.conn c.make_table-in-None.new.conn c.make_table-in-None.result _ ran c.make_table-in-None.ensures)
