use Rattle.std.proofs.Common.{◌≡◌, ◌≤◌, ◌-◌, ◌++◌}
use Rattle.pg_logic.specs.Axioms.{binders}
use Rattle.pg_terms.specs.View.{terms}
use Rattle.pg_arith.proofs.axioms.outer_binders.Given as goal

abbrev pub invariant-loop-left : goal.invariant-loop-left
invariant-loop-left l = (l.least ≤ l.left) × (terms l.variables ++ binders l.left ≡ binders l.n)

abbrev pub decreases-loop-left : goal.decreases-loop-left
decreases-loop-left l = l.left - l.least
