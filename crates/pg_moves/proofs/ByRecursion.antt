-- That goals fit, by recursion on the list of their hypotheses and on the list of goals: so proofs take it apart.
use Rattle.std.proofs.Common.{◌≡◌, ℕ, List, true}
use Rattle.std.specs.List.{AllByRecursion}
use Rattle.std.specs.Prelude.{All}
use Rattle.std.proofs.lemmas.List.Elements.{All-from_recursion, recursion_from_All}
use Rattle.pg_logic.specs.Tree.{Fm}
use Rattle.pg_logic.specs.Signature.{Signature, fits}
use Rattle.pg_moves.specs.Proofs.{Sequent}
use Rattle.pg_moves.specs.Proofs as specs

-- all of a list of formulas fit n variables
abbrev pub AllFit : Signature → ℕ → List Fm → Type 0
AllFit s n h = AllByRecursion (λ a. fits s n 0 a ≡ true) h

abbrev pub Fits : Signature → Sequent → Type 0
Fits s g = AllFit s g.vars g.hyps × (fits s g.vars 0 g.target ≡ true)

abbrev pub AllFitting : Signature → List Sequent → Type 0
AllFitting s gs = AllByRecursion (Fits s) gs

pub from_fits : (s : Signature) (g : Sequent) → specs.Fits s g → Fits s g
from_fits s g f = (recursion_from_All (λ a. fits s g.vars 0 a ≡ true) g.hyps f.0, f.1)

pub to_fits : (s : Signature) (g : Sequent) → Fits s g → specs.Fits s g
to_fits s g f = (All-from_recursion (λ a. fits s g.vars 0 a ≡ true) g.hyps f.0, f.1)
