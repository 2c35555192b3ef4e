use Rattle.std.proofs.Common.{◌≡◌, take}
use Rattle.pg_goal.proofs.goal.copied_hyps.Given as goal

abbrev pub invariant-loop-hyp : goal.invariant-loop-hyp
invariant-loop-hyp l = l.copies ≡ take l.hyp-index l.hyps
