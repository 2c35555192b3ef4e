use Rattle.std.proofs.Common.{◌≡◌}
use Rattle.pg_rewrites.specs.Staging.{made}
use Rattle.pg_rewrites.proofs.staging.stages.Given as goal

abbrev pub invariant-loop-left : goal.invariant-loop-left
invariant-loop-left l = made l.by l.left l.partial ≡ made l.by l.steps l.initial.partial

abbrev pub decreases-loop-left : goal.decreases-loop-left
decreases-loop-left l = l.left
