-- What becomes of flags as they are set, taken away and kept.
use Rattle.std.proofs.Common.{◌≡◌, ℕ, ◌+◌, ◌<◌, ◌≤◌, Bool, true, false, cond, ◌||◌, eqb, List, length, get_or, set, take, refl, sym, ap, ◌∙◌, inl, inr}
use Rattle.std.specs.List.{list_any}
use Rattle.std.proofs.lemmas.Bool.{cases_eq, cases_lt, eq-eqb, ne_eqb, false≢true}
use Rattle.std.proofs.lemmas.List.{get_or-set_same, get_or-set_other, get_or_past}
use Rattle.std.proofs.lemmas.List.Folds.{list_any_more, list_any_at}
use Rattle.pg_worlds.specs.Flags.{flag}

pub flag-set : (flags : List Bool) (n k : ℕ) (b : Bool) → n < length flags → flag (set flags n b) k ≡ cond (eqb n k) b (flag flags k)
flag-set flags n k b h =
    elim (cases_eq n k) [
      | inl e ↦ ap (λ j. flag (set flags n b) j) (sym e) ∙ get_or-set_same flags n b false h ∙ sym (ap (λ c. cond c b (flag flags k)) (eq-eqb n k e))
      | inr d ↦ get_or-set_other flags n k b false (λ e. d (sym e)) ∙ sym (ap (λ c. cond c b (flag flags k)) (ne_eqb n k d))
    ]

pub flag-past : (flags : List Bool) (k : ℕ) → length flags ≤ k → flag flags k ≡ false
flag-past flags k h = get_or_past flags k false h

pub flag-below : (flags : List Bool) (k : ℕ) → flag flags k ≡ true → k < length flags
flag-below flags k e = elim (cases_lt k (length flags)) [ inl h ↦ h | inr h ↦ absurd (false≢true (sym (flag-past flags k h) ∙ e)) ]

or_more : (a b c : Bool) → (a || (b || c)) ≡ cond c true (a || b)
or_more true b true = refl
or_more true b false = refl
or_more false true true = refl
or_more false true false = refl
or_more false false true = refl
or_more false false false = refl

module _ {X : Type 0} (N : X → ℕ) where
  abbrev named : List X → ℕ → Bool
  named xs k = list_any (λ x. eqb (N x) k) xs

  -- what holds of each name's number holds of the number of the name at hand
  pub room_at : (xs : List X) (i : ℕ) (x : X) (n room : ℕ) → i < length xs → x ≡ get_or xs i x → n ≡ N x
      → ((k : ℕ) → named xs k ≡ true → k < room) → n < room
  room_at xs i x n room h e same has_room =
      has_room n (list_any_at (λ y. eqb (N y) n) xs i x h (eq-eqb _ _ (sym (same ∙ ap N e))))

  -- one more flag is set
  pub add_step : (xs : List X) (i : ℕ) (x : X) (n : ℕ) (start flags : List Bool) → i < length xs → x ≡ get_or xs i x → n ≡ N x → n < length flags
      → ((k : ℕ) → flag flags k ≡ (flag start k || named (take i xs) k))
      → (k : ℕ) → flag (set flags n true) k ≡ (flag start k || named (take (i + 1) xs) k)
  add_step xs i x n start flags h e same l so_far k =
      flag-set flags n k true l
      ∙ ap (λ b. cond (eqb n k) true b) (so_far k)
      ∙ sym (or_more (flag start k) (named (take i xs) k) (eqb n k))
      ∙ ap (λ m. flag start k || (named (take i xs) k || eqb m k)) (same ∙ ap N e)
      ∙ ap (λ b. flag start k || b) (sym (list_any_more (λ y. eqb (N y) k) xs i x h))
