-- What the kernel accepts in the empty context: no variables and no hypotheses.
use Rattle.std.specs.Prelude.{ℕ, List, [], None, ◌≡◌, ◌<◌, ◌^◌, length, true}
use Rattle.pg_logic.specs.Tree.{Fm}
use Rattle.pg_logic.specs.Signature.{Signature, fits}
use Rattle.pg_logic.specs.Declarations.{Declarations, AreDeclared, signature_of}
use Rattle.pg_logic.specs.Kernel.{Pf, fault_of}
use Rattle.pg_terms.specs.declared.formula.Formula.{Formula}
use Rattle.pg_terms.specs.View.{formula}
use Rattle.pg_kernel.specs.declared.proof.Proof.{Proof}
use Rattle.pg_kernel.specs.Names.{AreNames}
use Rattle.pg_kernel.specs.View.{proof}

-- over a signature and theorems, the kernel accepts this proof of a goal
abbrev pub Accepts : Signature → List Fm → Pf → Fm → Type 0
Accepts s th p a = fault_of s th p 0 [] a 0 ≡ None

-- over some declared signature and fewer than 2^32 theorems, a goal fits 0 variables and the kernel accepts this proof of it
pub record IsAdmitted (a : Fm) (p : Pf) : Type 0 where
  pub declarations : Declarations
  pub theorems : List Fm
  pub declared : AreDeclared declarations
  pub few : length theorems < 2 ^ 32
  pub fitting : fits (signature_of declarations) 0 0 a ≡ true
  pub accepted : Accepts (signature_of declarations) theorems p a

-- what holds of each `Checked`
pub record IsChecked (a : Formula) (p : Proof) (names : List ℕ) : Type 0 where
  pub accepted : IsAdmitted (formula a) (proof p)
  pub named : AreNames (proof p) names
