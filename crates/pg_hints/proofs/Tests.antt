-- Two tests, one behind the other.
use Rattle.std.proofs.Common.{◌≡◌, ◌==◌, ◌&&◌, ℕ, Bool, nat_eq, arith}
use Rattle.std.proofs.lemmas.Bool.Decides.{nat_tests}

pub both : (a b : ℕ) (x r : Bool) → a ≡ b → r ≡ x → r ≡ (a == b) && x
both a b x r e h = grind (arith, nat_tests)

pub neither : (a b : ℕ) (x : Bool) → (a ≡ b → ⊥) → nat_eq a b ≡ (a == b) && x
neither a b x n = grind (arith, nat_tests)
