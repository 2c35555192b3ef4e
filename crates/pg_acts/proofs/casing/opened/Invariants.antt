use Rattle.std.proofs.Common.{◌≡◌, drop, map}
use Rattle.pg_logic.specs.Kernel.{hyp}
use Rattle.pg_moves.specs.Frames.{predes}
use Rattle.pg_terms.specs.View.{formula}
use Rattle.pg_kernel.specs.View.{proof}
use Rattle.pg_acts.proofs.casing.opened.Given as goal

abbrev pub invariant-loop-a : goal.invariant-loop-a
invariant-loop-a l = predes (map formula (drop l.a-index l.way)) (proof l.d) ≡ predes (map formula l.way) (hyp l.fn.i)
