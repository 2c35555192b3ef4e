use Rattle.std.proofs.Common.{◌≡◌, ◌++◌, drop, map}
use Rattle.pg_moves.specs.First.{first_hyps}
use Rattle.pg_goal.specs.View.{hyp_of}
use Rattle.pg_goal.proofs.goal.first_hyps.Given as goal

abbrev pub invariant-loop-binder : goal.invariant-loop-binder
invariant-loop-binder l = map hyp_of l.hyps ++ first_hyps (drop l.binder-index l.binders) ≡ first_hyps l.binders
