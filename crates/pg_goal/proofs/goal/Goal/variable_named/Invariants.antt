use Rattle.std.proofs.Common.{◌≡◌, ◌+◌, ◌&&◌, drop, map}
use Rattle.std.specs.List.{position_or_len}
use Rattle.std.specs.Str.{bytes_eq}
use Rattle.pg_moves.specs.Goals.{Var}
use Rattle.pg_goal.specs.View.{var_of}
use Rattle.pg_goal.proofs.goal.Goal.variable_named.Given as goal

abbrev pub invariant-loop-var : goal.invariant-loop-var
invariant-loop-var l = record {
  counted : l.number ≡ l.var-index;
  before : position_or_len (λ (v : Var). v.live && bytes_eq l.name v.name) (map var_of l.self.vars) ≡ l.var-index + position_or_len (λ (v : Var). v.live && bytes_eq l.name v.name) (map var_of (drop l.var-index l.self.vars));
}
