use Rattle.std.proofs.Common.{◌≡◌, ◌≤◌, ◌+◌, ◌*◌, length, drop}
use Rattle.pg_logic.specs.Axioms.{equations_from}
use Rattle.pg_arith.specs.View.{functions}
use Rattle.pg_arith.proofs.axioms.total_count.Given as goal

abbrev pub invariant-loop-f : goal.invariant-loop-f
invariant-loop-f l = record {
  few : l.total ≤ 2 * l.f-index;
  counted : l.total + length (equations_from l.f-index (functions (drop l.f-index l.declared))) ≡ length (equations_from 0 (functions l.declared));
}
