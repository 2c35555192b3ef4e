-- What the axioms say are theorems.
use Rattle.std.proofs.Common.{◌≡◌, ℕ, zero, suc, ◌≤◌, List, [], ◌∷◌, length, take, Some, refl, arith, ap, sym, ◌∙◌}
use Rattle.std.specs.Prelude.{slice_get, option_map}
use Rattle.std.proofs.lemmas.Option.{slice_get-map}
use Rattle.pg_logic.specs.Tree.{Fm}
use Rattle.pg_logic.specs.Axioms.{Axiom, axioms}
use Rattle.pg_logic.specs.Declarations.{Declarations, signature_of, AreDeclared}
use Rattle.pg_logic.specs.Sound.{IsTheorem}
use Rattle.pg_arith.proofs.AxiomFits.{closed-says, true-says}
use Rattle.pg_kernel.proofs.Axioms.{sayings}

-- each fits 0 variables and is true
pub axioms_theorems : (d : Declarations) → AreDeclared d → (th : List Fm) → th ≡ sayings (axioms d) → (k : ℕ) → IsTheorem (signature_of d) th k
axioms_theorems d a th e k b is =
    let there : option_map (λ (x : Axiom). x.says) (slice_get (axioms d) k) ≡ Some b =
    sym (slice_get-map (λ (x : Axiom). x.says) (axioms d) k) ∙ ap (λ l. slice_get l k) (sym e) ∙ is in
    (closed-says d a k b there, true-says d a k b there)

-- as many as there are, or more, are all
pub take_all : (xs : List Axiom) (n : ℕ) → length xs ≤ n → sayings (take n xs) ≡ sayings xs
take_all [] zero le = refl
take_all [] (suc n) le = refl
take_all (x ∷ xs) zero le = absurd (omega arith)
take_all (x ∷ xs) (suc n) le = ap (λ l. x.says ∷ l) (take_all xs n (omega arith))
