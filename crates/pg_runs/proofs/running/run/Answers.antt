use Rattle.std.proofs.Common.{ℕ, arith, map, subst, sym}
use Rattle.std.specs.Prelude.{Err}
use Rattle.pg_terms.specs.View.{formula}
use Rattle.pg_script.specs.Data.{entries_of}
use Rattle.pg_script.specs.View.{entry}
use Rattle.pg_moves.specs.First.{first_goal}
use Rattle.pg_moves.specs.Runs.{run, run_items, parts_among}
use Rattle.pg_goal.specs.View.{lookup_of}
use Rattle.pg_runs.specs.State.{goals_of, HaveRoom}
use Rattle.pg_runs.specs.Running.{Runs, StopsSo}
use Rattle.pg_runs.proofs.Ending.{has_room, leads_whole, ends_ok, ends_stopped}
use Rattle.pg_runs.proofs.running.run.Goals as goal

pub items-requires-clause-room : goal.items-requires-clause-room
items-requires-clause-room m c =
    let l = lookup_of c.args.lookup.now in
    let es = entries_of (map entry c.args.script.now.items) in
    subst (λ xs. HaveRoom l (parts_among (entries_of (map entry xs))) (goals_of c.in_ok-state.state.goals)) (sym c.as_slice.ensures)
    (subst (HaveRoom l (parts_among es)) (sym c.in_ok-state.ensures.goals) (has_room l c.args.statement.now es c.requires))

pub ended-requires-clause-leads : goal.ended-requires-clause-leads
ended-requires-clause-leads m c =
    leads_whole (lookup_of c.args.lookup.now) c.args.statement.now _ c.in_ok-state.state c.items.new.state c.requires.usable.sound c.requires.fits (omega (arith, c.requires.vars)) c.in_ok-state.ensures.frames c.in_ok-state.ensures.goals c.in-Ok.ensures.runs.1

pub returns-in-Ok : goal.returns-in-Ok
returns-in-Ok m c =
    ends_ok (lookup_of c.args.lookup.now) c.args.statement.now c.args.script.now.items c.as_slice.result.now (goals_of c.in_ok-state.state.goals) c.as_slice.ensures c.in_ok-state.ensures.goals _ (goals_of c.items.new.state.goals) c.ended.result c.in-Ok.ensures.runs.0 c.ended.ensures

pub returns-in-Err-Stop : goal.returns-in-Err-Stop
returns-in-Err-Stop m c =
    let l = lookup_of c.args.lookup.now in
    let st = c.args.statement.now in
    let es = entries_of (map entry c.as_slice.result.now) in
    let old = c.in_ok-state.state in
    let q = subst (λ h. Runs {X = ℕ} l (run_items l es 0 (goals_of old.goals)) (parts_among es) old c.items.new.state (Err h)) c.in-Err-Stop.field-0-is c.in-Err-Stop.ensures.runs in
    subst (StopsSo (run l (first_goal st.binders.items (formula st.target)) (map entry c.args.script.now.items))) (sym c.in-Err-Stop.stop-is)
    (ends_stopped l st c.args.script.now.items c.as_slice.result.now (goals_of old.goals) c.as_slice.ensures c.in_ok-state.ensures.goals c.in-Err-Stop.stop q)
