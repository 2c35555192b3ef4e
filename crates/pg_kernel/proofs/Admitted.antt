-- What is true by an accepted proof, of equal goals and proofs.
use Rattle.std.proofs.Common.{◌≡◌, ℕ, List, [], Option, Some, None, IsTrue, IfSome, subst}
use Rattle.pg_logic.specs.Tree.{Fm}
use Rattle.pg_logic.specs.Signature.{Signature}
use Rattle.pg_logic.specs.Sound.{IsTheorem}
use Rattle.pg_logic.specs.Truth.{IsTrueOf}
use Rattle.pg_terms.specs.declared.formula.Formula.{Formula}
use Rattle.pg_terms.specs.View.{formula}
use Rattle.pg_kernel.specs.declared.proof.Proof.{Proof}
use Rattle.pg_kernel.specs.Names.{is_named}
use Rattle.pg_kernel.specs.View.{proof}

abbrev pub TrueByNamed : Signature → List Fm → Proof → Formula → Type 0
TrueByNamed s th p a = ((k : ℕ) → IsTrue (is_named k (proof p)) → IsTheorem s th k) → IsTrueOf s [] (formula a)

pub true_by_named : (s : Signature) (th : List Fm) (o : Option (List ℕ)) (names : List ℕ) (a b : Formula) (p q : Proof) →
    IfSome o (λ x. TrueByNamed s th p a) → o ≡ Some names → a ≡ b → p ≡ q → TrueByNamed s th q b
true_by_named s th None names a b p q h is e f known = absurd (cc)
true_by_named s th (Some x) names a b p q h is e f known =
    subst (λ a. IsTrueOf s [] (formula a)) e (h (λ k t. known k (subst (λ p. IsTrue (is_named k (proof p))) f t)))
