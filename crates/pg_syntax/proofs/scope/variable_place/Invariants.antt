use Rattle.std.proofs.Common.{◌≡◌, ◌+◌, drop}
use Rattle.std.specs.List.{position_or_len}
use Rattle.pg_meaning.specs.Scope.{is_called}
use Rattle.pg_syntax.proofs.scope.variable_place.Given as goal

abbrev pub invariant-loop-name : goal.invariant-loop-name
invariant-loop-name l = record {
  counted : l.number ≡ l.name-index;
  before : position_or_len (is_called l.text) l.vars ≡ l.name-index + position_or_len (is_called l.text) (drop l.name-index l.vars);
}
