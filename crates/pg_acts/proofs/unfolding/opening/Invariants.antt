use Rattle.std.proofs.Common.{◌≡◌}
use Rattle.pg_moves.specs.Frames.{predis}
use Rattle.pg_frames.specs.View.{frames_of}
use Rattle.pg_acts.proofs.unfolding.opening.Given as goal

abbrev pub invariant-loop : goal.invariant-loop
invariant-loop l = frames_of l.frames ≡ predis l.counter
