use Rattle.std.proofs.Common.{◌≡◌, take, length}
use Rattle.pg_logic.specs.Axioms.{axioms}
use Rattle.pg_terms.specs.View.{formulas}
use Rattle.pg_arith.specs.View.{declarations}
use Rattle.pg_kernel.proofs.Axioms.{sayings}
use Rattle.pg_kernel.proofs.theorems.Theorems.new.Given as goal

abbrev pub invariant-loop-id : goal.invariant-loop-id
invariant-loop-id l = (formulas l.formulas ≡ sayings (take l.id (axioms (declarations l.sig)))) × (length l.formulas ≡ l.id)
