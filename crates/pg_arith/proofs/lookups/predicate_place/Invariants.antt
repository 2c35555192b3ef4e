use Rattle.std.proofs.Common.{◌≡◌, ◌+◌, drop}
use Rattle.std.specs.List.{position_or_len}
use Rattle.std.specs.Str.{bytes_eq}
use Rattle.pg_arith.specs.View.{predicates}
use Rattle.pg_arith.proofs.lookups.predicate_place.Given as goal

abbrev pub invariant-loop-p : goal.invariant-loop-p
invariant-loop-p l = record {
  counted : l.number ≡ l.p-index;
  before : position_or_len (λ p. bytes_eq l.name p.name) (predicates l.declared) ≡ l.p-index + position_or_len (λ p. bytes_eq l.name p.name) (predicates (drop l.p-index l.declared));
}
