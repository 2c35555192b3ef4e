-- What digits mean, digit by digit.
use Rattle.std.proofs.Common.{◌≡◌, ℕ, ◌+◌, ◌*◌, ◌-◌, List, [], ◌∷◌, ◌++◌, refl}
use Rattle.pg_gametext.specs.Checks.{digits_value}

pub digits-more : (n : ℕ) (cs : List ℕ) (c : ℕ) → digits_value n (cs ++ c ∷ []) ≡ digits_value n cs * 10 + (c - 48)
digits-more n [] c = refl
digits-more n (d ∷ cs) c = digits-more (n * 10 + (d - 48)) cs c
