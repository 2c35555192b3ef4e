use Rattle.std.proofs.Common.{◌≡◌, take}
use Rattle.pg_moves.specs.Frames.{introduced}
use Rattle.pg_frames.specs.View.{frames_of}
use Rattle.pg_runs.proofs.moving.introduced.Given as goal

abbrev pub invariant-loop-binder : goal.invariant-loop-binder
invariant-loop-binder l = frames_of l.frames ≡ introduced (take l.binder-index l.binders)
