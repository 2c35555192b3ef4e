use Rattle.std.proofs.Common.{◌≡◌, [], length}
use Rattle.pg_moves.specs.Frames as moves
use Rattle.pg_frames.specs.View.{frames_of}
use Rattle.pg_frames.specs.Held.{held}
use Rattle.pg_frames.proofs.built.finish.Given as goal

abbrev pub invariant-loop-frame : goal.invariant-loop-frame
invariant-loop-frame l = moves.built (frames_of l.frames) (held l.stack) ≡ moves.built (frames_of l.initial.frames) []

abbrev pub decreases-loop-frame : goal.decreases-loop-frame
decreases-loop-frame l = length l.frames
