use Rattle.std.proofs.Common.{rules, ◌≡◌, inl, inr, Err}
use Rattle.std.proofs.lemmas.Result.{IfErr-weaker, IfOk-weaker}
use Rattle.pg_keep_sql.proofs.statements.find.Goals as goal

pub returns-clause-rows : goal.returns-clause-rows
returns-clause-rows g c =
    let same : c.deref.result.now ≡ c.in_ok-shown.shown.items = search rules in
    let shows = rw c.in_ok-shown.was at c.select.ensures.shown in
    IfOk-weaker c.rows_from.result _ _ (λ found are. (c.in_ok-shown.shown.items, shows, rw same at are)) c.rows_from.ensures.rows

pub returns-clause-fails : goal.returns-clause-fails
returns-clause-fails g c =
    let same : c.deref.result.now ≡ c.in_ok-shown.shown.items = search rules in
    let shows = rw c.in_ok-shown.was at c.select.ensures.shown in
    IfErr-weaker c.rows_from.result _ _ (λ e other refused. inr (c.in_ok-shown.shown.items, shows, rw same at (other refused)))
    c.rows_from.ensures.other

pub returns-in_err-shown-clause-fails : goal.returns-in_err-shown-clause-fails
returns-in_err-shown-clause-fails g c =
    let refuses = rw c.in_err-shown.was at c.select.ensures.fails in
    let is : c.from_residual.result ≡ Err c.in_err-shown.field-0.0 = search rules in
    rw is (λ refused. inl (c.in_err-shown.field-0.0, refuses))
