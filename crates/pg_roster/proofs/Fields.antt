-- The fields of a record of two.
use Rattle.std.proofs.Common.{◌≡◌, ℕ, List, [], ◌∷◌, length, Some, None, refl, arith}
use Rattle.csv.specs.Records.{field_at}
use Rattle.pg_roster.specs.Roster.{two_of}

pub two-whole : (fields : List (List ℕ)) (a b : List ℕ) → length fields ≡ 2 → field_at fields 0 ≡ Some a → field_at fields 1 ≡ Some b
    → Some (a ∷ b ∷ []) ≡ two_of fields
unfolding field_at
two-whole [] a b two first second = cc
two-whole (x ∷ []) a b two first second = cc
two-whole (x ∷ y ∷ []) a b two first second = let one : x ≡ a = cc in let other : y ≡ b = cc in rw (one, other) refl
two-whole (x ∷ y ∷ z ∷ fields) a b two first second = absurd (omega arith)

pub first-there : (fields : List (List ℕ)) → length fields ≡ 2 → field_at fields 0 ≡ None → ⊥
unfolding field_at
first-there [] two gone = cc
first-there (x ∷ fields) two gone = cc

pub second-there : (fields : List (List ℕ)) → length fields ≡ 2 → field_at fields 1 ≡ None → ⊥
unfolding field_at
second-there [] two gone = cc
second-there (x ∷ []) two gone = cc
second-there (x ∷ y ∷ fields) two gone = cc
