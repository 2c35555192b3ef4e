use Rattle.std.proofs.Common.{◌≡◌, ◌++◌, length, map}
use Rattle.pg_moves.specs.Closing.{unfolded_within}
use Rattle.pg_moves.specs.Frames.{way}
use Rattle.pg_arith.specs.View.{signature}
use Rattle.pg_terms.specs.View.{formula}
use Rattle.pg_acts.proofs.unfolding.unfold.Given as goal

abbrev pub invariant-loop-left : goal.invariant-loop-left
invariant-loop-left l = record {
  form : unfolded_within l.left (signature l.sig) (formula l.form) ≡ unfolded_within (length (signature l.sig).predicates) (signature l.sig) (formula l.a);
  way : map formula l.way ++ way l.left (signature l.sig) (formula l.form) ≡ way (length (signature l.sig).predicates) (signature l.sig) (formula l.a);
}

abbrev pub decreases-loop-left : goal.decreases-loop-left
decreases-loop-left l = l.left
