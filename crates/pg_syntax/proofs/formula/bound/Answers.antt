use Rattle.std.proofs.Common.{arith, ◌∙◌}
use Rattle.pg_terms.specs.View.{formula as formula_in}
use Rattle.pg_shape.specs.View.{quantifier}
use Rattle.pg_syntax.proofs.Texts.{bound_turn}
use Rattle.pg_syntax.proofs.formula.bound.Goals as goal

pub names-preserved : goal.names-preserved
names-preserved c =
    let next = bound_turn (quantifier c.args.q) c.args.outer c.names.binders c.pop.new.self c.in-Some.name (formula_in c.names.a) (formula_in c.in_ok-a-in-Some.a) (omega (arith, c.len.ensures, c.names-test.true)) c.in-Some.ensures c.in_ok-a-in-Some.ensures in
    record { few = next.0; kept = next.1 ∙ c.names.invariant.kept; same = next.2 ∙ c.names.invariant.same }
