use Rattle.std.proofs.Common.{◌≡◌, ◌<◌, length, drop}
use Rattle.std.specs.Prelude.{slice_get}
use Rattle.pg_logic.specs.Axioms.{equations_from}
use Rattle.pg_arith.specs.View.{functions}
use Rattle.pg_arith.proofs.axioms.place_of.Given as goal

abbrev pub invariant-loop-f : goal.invariant-loop-f
invariant-loop-f l = record {
  counted : l.number ≡ l.f-index;
  within : l.left < length (equations_from l.f-index (functions (drop l.f-index l.declared)));
  same : slice_get (equations_from l.f-index (functions (drop l.f-index l.declared))) l.left ≡ slice_get (equations_from 0 (functions l.declared)) l.at;
}
