use Rattle.std.proofs.Common.{◌∷◌, [], length, length-append, arith, ap, ◌∙◌}
use Rattle.pg_logic.specs.Axioms.{axioms}
use Rattle.pg_arith.specs.View.{declarations}
use Rattle.pg_terms.specs.View.{formulas}
use Rattle.pg_kernel.proofs.Axioms.{one_more}
use Rattle.pg_kernel.proofs.AxiomTheorems.{axioms_theorems, take_all}
use Rattle.pg_kernel.proofs.theorems.Theorems.new.Goals as goal

pub loop-id-preserved : goal.loop-id-preserved
loop-id-preserved c =
    let a = c.in_ok-axiom.field-0 in
    let added = c.in_ok-push.ensures.ok in (
      one_more (axioms (declarations c.args.sig.now)) c.loop-id.id c.loop-id.formulas c.push.new.self a added c.loop-id.invariant.0 c.in_ok-axiom.ensures.exact,
      omega (arith, ap length added, length-append c.loop-id.formulas (a ∷ []), c.loop-id.invariant.1),
    )

pub returns-clause-theorems : goal.returns-clause-theorems
returns-clause-theorems c =
    let d = declarations c.args.sig.now in
    axioms_theorems d c.declared_law.ensures (formulas c.loop-id.formulas)
    (c.loop-id.invariant.0 ∙ take_all (axioms d) c.loop-id.id (omega (arith, c.loop-id-test.false, c.axiom_count-id-end.ensures)))
