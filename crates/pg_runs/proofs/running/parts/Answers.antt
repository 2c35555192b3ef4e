use Rattle.std.proofs.Common.{◌<◌, ◌≤◌, refl, subst, sym}
use Rattle.pg_script.specs.View.{step as move_in, shape}
use Rattle.pg_script.specs.Blocks.{steps_of}
use Rattle.pg_goal.specs.View.{lookup_of}
use Rattle.std.specs.Prelude.{Err}
use Rattle.pg_moves.specs.Runs.{run_parts}
use Rattle.pg_moves.specs.Steps.{step}
use Rattle.pg_runs.specs.State.{goals_of}
use Rattle.pg_runs.specs.Running.{Steps, StopsBy}
use Rattle.pg_runs.proofs.Playing.{halted_at, part_room, part_goes, part_halts, parts_done}
use Rattle.pg_runs.proofs.running.parts.Goals as goal

pub step-requires-clause-room : goal.step-requires-clause-room
step-requires-clause-room m c =
    part_room (lookup_of c.args.lookup.now) c.args.number (move_in c.args.step.now) (steps_of (shape c.args.step.now.form)) c.loop-part.part
    (subst (λ n. c.loop-part.part < n) c.part_count-part-end.ensures c.loop-part-test.true) c.args.state.now c.loop-part.state c.requires.room c.loop-part.invariant.1

pub loop-part-preserved : goal.loop-part-preserved
loop-part-preserved m c =
    part_goes (lookup_of c.args.lookup.now) c.args.number (move_in c.args.step.now) (steps_of (shape c.args.step.now.form)) c.loop-part.part
    (subst (λ n. c.loop-part.part < n) c.part_count-part-end.ensures c.loop-part-test.true) c.args.state.now c.loop-part.state c.step.new.self c.loop-part.invariant.0 c.loop-part.invariant.1 c.in-Ok.ensures

pub returns : goal.returns
returns m c =
    parts_done (lookup_of c.args.lookup.now) c.args.number (move_in c.args.step.now) (steps_of (shape c.args.step.now.form)) c.loop-part.part
    c.args.state.now c.loop-part.state (subst (λ n. n ≤ c.loop-part.part) c.part_count-part-end.ensures c.loop-part-test.false) (subst (λ n. c.loop-part.part ≤ n) c.part_count-part-end.ensures c.loop-part.auto.part-end) c.loop-part.invariant.0 c.loop-part.invariant.1

pub returns-in-Err-Stop : goal.returns-in-Err-Stop
returns-in-Err-Stop x c =
    let l = lookup_of c.args.lookup.now in
    let m = move_in c.args.step.now in
    let total = steps_of (shape c.args.step.now.form) in
    let a = c.args.state.now in
    let cur = c.loop-part.state in
    let q = subst (λ f. Steps l (step l (goals_of cur.goals) m c.loop-part.part) cur c.step.new.self (Err f)) c.in-Err-Stop.field-0-is c.in-Err-Stop.ensures in
    halted_at (Unit {0}) l (run_parts l c.args.number m total 0 (goals_of a.goals)) total a c.stopped.new.state c.stopped.result _ c.stopped.ensures
    (part_halts l c.args.number m total c.loop-part.part (subst (λ n. c.loop-part.part < n) c.part_count-part-end.ensures c.loop-part-test.true) a cur c.step.new.self _ c.loop-part.invariant.0
    (subst (StopsBy (step l (goals_of cur.goals) m c.loop-part.part)) (sym c.in-Err-Stop.cause-is) q.0) q.1 refl refl refl)
