use Rattle.std.proofs.Common.{rules, ◌≡◌, Err, string_bytes}
use Rattle.pg_keep_sql.specs.Statements.{Fits}
use Rattle.pg_keep_sql.proofs.Others.{one-other}
use Rattle.pg_keep_sql.proofs.statements.rows_from.Goals as goal

pub returns-in_err-row_from-clause-other : goal.returns-in_err-row_from-clause-other
returns-in_err-row_from-clause-other c =
    let same : string_bytes c.in_ok-from_str.field-0 ≡ c.args.player.now = search rules in
    let fails = rw (c.in_err-row_from.was, same) at c.row_from.ensures.other in
    let other = one-other (Fits c.args.player.now) c.args.shown.now c.loop-row.row-index c.row-item.result c.loop-row-test.true c.row-item.is in
    let is : c.from_residual-in_err-row_from.result ≡ Err c.in_err-row_from.field-0.0 = search rules in
    rw is (λ refused. other (fails refused))
