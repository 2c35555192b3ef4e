use Rattle.std.proofs.Common.{◌≡◌, map}
use Rattle.pg_cert.specs.Open as open_nodes
use Rattle.pg_cert.specs.View.{lines, task}
use Rattle.pg_cert.proofs.Stack.{weights}
use Rattle.pg_cert.proofs.tasks.with_proof.Given as goal

abbrev pub invariant-loop-task : goal.invariant-loop-task
invariant-loop-task l = open_nodes.all_done (map task l.tasks) (lines l.lines) ≡ open_nodes.all_done (map task l.initial.tasks) (lines l.initial.lines)

abbrev pub decreases-loop-task : goal.decreases-loop-task
decreases-loop-task l = weights (map task l.tasks)
