use Rattle.std.proofs.Common.{rules}
use Rattle.pg_kernel.specs.View.{proof}
use Rattle.pg_cert.specs.View.{lines}
use Rattle.pg_cert.proofs.Stack.{whole_turn, last_turn, whole_falls, last_falls}
use Rattle.pg_cert.proofs.tasks.with_proof.Goals as goal

pub loop-task-smaller-in-Continue-branch-2 : goal.loop-task-smaller-in-Continue-branch-2
loop-task-smaller-in-Continue-branch-2 c =
    whole_falls c.loop-task.tasks c.pop.new.self c.open.new.tasks c.in-Some.task (proof c.in-Whole.p.now) c.in-Some.ensures (search rules) c.in_ok-open-in-Whole.ensures

pub loop-task-preserved-in-Continue-branch-2 : goal.loop-task-preserved-in-Continue-branch-2
loop-task-preserved-in-Continue-branch-2 c =
    whole_turn c.loop-task.tasks c.pop.new.self c.open.new.tasks c.in-Some.task (proof c.in-Whole.p.now) (lines c.loop-task.lines) _ c.in-Some.ensures (search rules) c.in_ok-open-in-Whole.ensures c.loop-task.invariant

pub loop-task-smaller : goal.loop-task-smaller
loop-task-smaller c = last_falls c.loop-task.tasks c.pop.new.self c.in-Some.task (proof c.in-Last.p.now) c.in-Some.ensures (search rules)

pub loop-task-preserved : goal.loop-task-preserved
loop-task-preserved c =
    last_turn c.loop-task.tasks c.pop.new.self c.in-Some.task (proof c.in-Last.p.now) (lines c.loop-task.lines) (lines c.write_line.new.out) _ c.in-Some.ensures (search rules) c.in_ok-write_line-in-Last.ensures c.loop-task.invariant
