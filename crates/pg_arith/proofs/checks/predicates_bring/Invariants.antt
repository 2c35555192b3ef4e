use Rattle.std.proofs.Common.{◌≡◌, drop}
use Rattle.std.specs.Prelude.{map}
use Rattle.std.specs.List.{list_any}
use Rattle.std.specs.Str.{bytes_eq}
use Rattle.pg_arith.specs.View.{predicates}
use Rattle.pg_arith.proofs.checks.predicates_bring.Given as goal

abbrev pub invariant-loop-predicate : goal.invariant-loop-predicate
invariant-loop-predicate l =
    list_any (bytes_eq l.name) (map (λ p. p.name) (predicates (drop l.predicate-index l.declared))) ≡ list_any (bytes_eq l.name) (map (λ p. p.name) (predicates l.declared))
