use Rattle.std.proofs.Common.{◌≡◌, ◌≤◌, ◌+◌, drop, length, map}
use Rattle.pg_spelling.specs.Named.{live}
use Rattle.pg_moves.specs.Goals.{var_name}
use Rattle.pg_goal.specs.View.{var_of}
use Rattle.pg_reduction.proofs.limits.live_vars.Given as goal

abbrev pub invariant-loop-var : goal.invariant-loop-var
invariant-loop-var l = (l.count ≤ l.var-index) × (l.count + length (live (map var_name (map var_of (drop l.var-index l.vars)))) ≡ length (live (map var_name (map var_of l.vars))))
