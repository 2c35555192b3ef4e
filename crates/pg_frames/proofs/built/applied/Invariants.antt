use Rattle.std.proofs.Common.{◌≡◌, length, map, reverse}
use Rattle.pg_moves.specs.Frames as moves
use Rattle.pg_kernel.specs.View.{proof}
use Rattle.pg_frames.specs.View.{stage_of}
use Rattle.pg_frames.specs.Held.{held}
use Rattle.pg_frames.proofs.built.applied.Given as goal

abbrev pub invariant-loop-stage : goal.invariant-loop-stage
invariant-loop-stage l =
    moves.taken_off (map stage_of (reverse l.stages)) (proof l.d) (held l.stack) ≡ moves.taken_off (map stage_of (reverse l.initial.stages)) (proof l.initial.d) (held l.fn.stack)

abbrev pub decreases-loop-stage : goal.decreases-loop-stage
decreases-loop-stage l = length l.stages
