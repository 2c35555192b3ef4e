use Rattle.std.proofs.Common.{◌≡◌, ◌≤◌, length, take, drop}
use Rattle.pg_terms.specs.View.{formula as formula_in}
use Rattle.pg_shape.specs.View.{quantifier}
use Rattle.pg_syntax.specs.Steps.{bound_names}
use Rattle.pg_syntax.proofs.formula.bound.Given as goal

abbrev pub invariant-names : goal.invariant-names
invariant-names l = record {
  few : l.outer ≤ length l.binders;
  kept : take l.outer l.binders ≡ take l.outer l.initial.binders;
  same : bound_names (quantifier l.q) (drop l.outer l.binders) (formula_in l.a) ≡ bound_names (quantifier l.q) (drop l.outer l.initial.binders) (formula_in l.initial.a);
}

abbrev pub decreases-names : goal.decreases-names
decreases-names l = length l.binders
