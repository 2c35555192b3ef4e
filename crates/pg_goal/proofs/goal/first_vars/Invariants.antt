use Rattle.std.proofs.Common.{◌≡◌, ◌++◌, drop, map}
use Rattle.pg_moves.specs.First.{first_vars}
use Rattle.pg_goal.specs.View.{var_of}
use Rattle.pg_goal.proofs.goal.first_vars.Given as goal

abbrev pub invariant-loop-binder : goal.invariant-loop-binder
invariant-loop-binder l = map var_of l.vars ++ first_vars (drop l.binder-index l.binders) ≡ first_vars l.binders
