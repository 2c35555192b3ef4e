use Rattle.std.proofs.Common.{◌≡◌, ◌++◌, drop, map}
use Rattle.pg_goal.specs.View.{hyp_of}
use Rattle.pg_inducts.specs.Carrying.{let_go}
use Rattle.pg_inducts.proofs.carrying.released.Given as goal

abbrev pub invariant-loop-hyp : goal.invariant-loop-hyp
invariant-loop-hyp l = map hyp_of l.released ++ map (let_go l.k) (map hyp_of (drop l.hyp-index l.hyps)) ≡ map (let_go l.k) (map hyp_of l.hyps)
