use Rattle.std.proofs.Common.{◌≡◌, Some, map, take}
use Rattle.pg_logic.specs.Axioms.{axioms}
use Rattle.pg_arith.specs.View.{declarations}
use Rattle.pg_run.proofs.level.axiom_names.Given as goal

abbrev pub invariant-loop-id : goal.invariant-loop-id
invariant-loop-id l = l.names.items ≡ map (λ x. Some x.name) (take l.id (axioms (declarations l.sig)))
