use Rattle.std.proofs.Common.{◌≡◌, ◌+◌, drop}
use Rattle.std.specs.List.{position_or_len}
use Rattle.std.specs.Str.{bytes_eq}
use Rattle.pg_logic.specs.Declarations.{name_of}
use Rattle.pg_arith.specs.View.{functions}
use Rattle.pg_arith.proofs.lookups.function_place.Given as goal

abbrev pub invariant-loop-f : goal.invariant-loop-f
invariant-loop-f l = record {
  counted : l.number ≡ l.f-index;
  before : position_or_len (λ f. bytes_eq l.name (name_of f)) (functions l.declared) ≡ l.f-index + position_or_len (λ f. bytes_eq l.name (name_of f)) (functions (drop l.f-index l.declared));
}
