use Rattle.std.proofs.Common.{◌≡◌, [], true, sym, subst}
use Rattle.pg_logic.specs.Signature.{fits}
use Rattle.pg_logic.specs.Truth.{IsTrueOf}
use Rattle.pg_terms.specs.View.{formula}
use Rattle.pg_arith.specs.View.{declarations, signature}
use Rattle.pg_arith.proofs.AxiomFits.{closed-says, true-says}
use Rattle.pg_arith.proofs.signature.Signature.axiom.Goals as goal

pub returns-clause-closed : goal.returns-clause-closed
returns-clause-closed c =
    subst (λ a. fits (signature c.args.self.now) 0 0 (formula a) ≡ true) (sym c.into_inner.ensures)
    (closed-says (declarations c.args.self.now) c.declared_law.ensures c.args.id _ c.in_ok-axiom_of.ensures)

pub returns-clause-truth : goal.returns-clause-truth
returns-clause-truth c =
    subst (λ a. IsTrueOf (signature c.args.self.now) [] (formula a)) (sym c.into_inner.ensures)
    (true-says (declarations c.args.self.now) c.declared_law.ensures c.args.id _ c.in_ok-axiom_of.ensures)
