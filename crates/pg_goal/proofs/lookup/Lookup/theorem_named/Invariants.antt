use Rattle.std.proofs.Common.{◌≡◌, ◌+◌, drop}
use Rattle.std.specs.List.{position_or_len}
use Rattle.pg_meaning.specs.Scope.{is_called}
use Rattle.pg_goal.proofs.lookup.Lookup.theorem_named.Given as goal

abbrev pub invariant-loop-theorem : goal.invariant-loop-theorem
invariant-loop-theorem l = record {
  counted : l.number ≡ l.theorem-index;
  before : position_or_len (is_called l.name) l.self.names.now ≡ l.theorem-index + position_or_len (is_called l.name) (drop l.theorem-index l.self.names.now);
}
