use Rattle.std.proofs.Common.{◌∙◌, ap, subst, sym as flip, Ok, Err, false}
use Rattle.std.specs.contracts.alloc.AllocError as alloc_error
use Rattle.pg_moves.specs.Runs as runs
use Rattle.pg_moves.specs.Runs.{run_read}
use Rattle.pg_goal.specs.View.{lookup_of}
use Rattle.pg_runs.specs.Running.{Ends}
use Rattle.pg_attempt.specs.Attempts.{goal as first}
use Rattle.pg_attempt.proofs.Running.{of-text, unread-ends, unreadable-ends}
use Rattle.pg_attempt.proofs.trying.attempt.Goals as goal

pub returns-in_default : goal.returns-in_default
returns-in_default c = unread-ends alloc_error.the_row.Denot (lookup_of c.args.lookup.now) c.args.statement.now c.args.bytes.now c.unread.result c.in_default.ensures.cases.0 c.unread.ensures

pub returns-in-Ok-read_script : goal.returns-in-Ok-read_script
returns-in-Ok-read_script c =
    let l = lookup_of c.args.lookup.now in
    let P : runs.Outcome → Type 0 = λ want. Ends l c.args.statement.now want c.run_script.result in
    subst P (flip (of-text l (first c.args.statement.now) c.in-Ok.text.now c.args.bytes.now c.in-Ok.ensures.cases.0 c.in-Ok.ensures.cases.1
    ∙ ap (run_read l (first c.args.statement.now)) c.in-Ok-read_script.ensures.exact))
    c.run_script.ensures

pub returns-in-Err : goal.returns-in-Err
returns-in-Err c =
    let l = lookup_of c.args.lookup.now in
    let P : runs.Outcome → Type 0 = λ want. Ends l c.args.statement.now want c.unreadable.result in
    subst P (flip (of-text l (first c.args.statement.now) c.in-Ok.text.now c.args.bytes.now c.in-Ok.ensures.cases.0 c.in-Ok.ensures.cases.1))
    (unreadable-ends _ l c.args.statement.now c.in-Ok.text.now c.in-Err.fault c.unreadable.result c.in-Err.ensures.exact c.unreadable.ensures)
