use Rattle.std.proofs.Common.{◌≡◌}
use Rattle.pg_moves.specs.Frames as moves
use Rattle.pg_kernel.specs.View.{proof}
use Rattle.pg_frames.proofs.built.impis.Given as goal

abbrev pub invariant-loop : goal.invariant-loop
invariant-loop l = proof l.p ≡ moves.impis l.counter (proof l.initial.p)
