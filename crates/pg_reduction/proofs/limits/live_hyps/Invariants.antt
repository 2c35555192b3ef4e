use Rattle.std.proofs.Common.{◌≡◌, ◌≤◌, ◌+◌, drop, length, map}
use Rattle.pg_spelling.specs.Named.{live}
use Rattle.pg_moves.specs.Goals.{hyp_name}
use Rattle.pg_goal.specs.View.{hyp_of}
use Rattle.pg_reduction.proofs.limits.live_hyps.Given as goal

abbrev pub invariant-loop-hyp : goal.invariant-loop-hyp
invariant-loop-hyp l = (l.count ≤ l.hyp-index) × (l.count + length (live (map hyp_name (map hyp_of (drop l.hyp-index l.hyps)))) ≡ length (live (map hyp_name (map hyp_of l.hyps))))
