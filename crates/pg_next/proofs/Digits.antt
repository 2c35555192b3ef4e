-- The size that digits write, read one by one.
use Rattle.std.proofs.Common.{◌≡◌, ◌≤◌, ◌<◌, ℕ, ◌+◌, ◌*◌, ◌-◌, min, Bool, true, false, ◌&&◌, ◌==◌, List, [], ◌∷◌, length, get_or, drop, sym as flip, ◌∙◌, ap, refl, arith, add-one, drop-cons}
use Rattle.std.specs.Prelude.{nat_lt, nat_le}
use Rattle.std.specs.Char.{is_ascii_digit, digit_value}
use Rattle.std.specs.Str.{all_ascii_digits, IsAscii, IsUtf8}
use Rattle.std.proofs.lemmas.Str.Ascii.{IsAscii-nil, IsAscii-cons}
use Rattle.std.proofs.lemmas.Str.{IsUtf8-from_ascii}
use Rattle.std.specs.Str.Parse.{digits_value, digits_value_after}
use Rattle.std.proofs.lemmas.Bool.Decides.{nat_tests}
use Rattle.pg_messages.specs.Paths.{is_digits}

-- the digits up to `at` write the value, capped
pub record SoFar (digits : List ℕ) (at value : ℕ) : Type 0 where
  pub digits_left : all_ascii_digits digits ≡ all_ascii_digits (drop at digits)
  pub whole : min 65537 (digits_value_after 10 value (drop at digits)) ≡ min 65537 (digits_value 10 digits)
  pub most : value ≤ 65537

cap-step : (v d : ℕ) → min 65537 (min 65537 v * 10 + d) ≡ min 65537 (v * 10 + d)
cap-step v d = omega arith

capped-after : (v : ℕ) (ds : List ℕ) → min 65537 (digits_value_after 10 (min 65537 v) ds) ≡ min 65537 (digits_value_after 10 v ds)
capped-after v [] = omega arith
capped-after v (c ∷ cs) =
    flip (capped-after (min 65537 v * 10 + digit_value c) cs)
    ∙ ap (λ x. min 65537 (digits_value_after 10 x cs)) (cap-step v (digit_value c))
    ∙ capped-after (v * 10 + digit_value c) cs

digit-is : (b : ℕ) → 48 ≤ b → b ≤ 57 → digit_value b ≡ b - 48
digit-is b low high =
    let a : nat_lt b 48 ≡ false = grind (arith, nat_tests, low) in
    let c : nat_lt b 58 ≡ true = grind (arith, nat_tests, high) in
    rw (a, c) refl

left-next : (ds : List ℕ) (at : ℕ) → at < length ds → drop at ds ≡ get_or ds at 0 ∷ drop (at + 1) ds
left-next ds at lt = rw (add-one, drop-cons ds at 0) refl

pub so-far-first : (ds : List ℕ) → SoFar ds 0 0
so-far-first ds = record { digits_left = refl; whole = refl; most = omega arith }

digit-low : (b : ℕ) → is_ascii_digit b ≡ true → (48 ≤ b) × (b ≤ 57)
digit-low b digit =
    (elim (nat_le 48 b) as (λ v. nat_le 48 b ≡ v → (v && nat_le b 57) ≡ true → (48 ≤ b) × (b ≤ 57)) [
      | true ↦ λ low high. (grind (arith, nat_tests, low), grind (arith, nat_tests, high))
      | false ↦ λ low bad. let no : ⊥ = cc in absurd no
    ]) refl digit

pub so-far-next : (ds : List ℕ) (at value next : ℕ) → at < length ds → is_ascii_digit (get_or ds at 0) ≡ true
    → next ≡ min 65537 (value * 10 + (get_or ds at 0 - 48)) → SoFar ds at value → SoFar ds (at + 1) next
so-far-next ds at value next lt digit is h =
    let left = left-next ds at lt in
    let rest = drop (at + 1) ds in
    let range = digit-low (get_or ds at 0) digit in
    let written = digit-is (get_or ds at 0) range.0 range.1 in
    record {
      digits_left = h.digits_left ∙ ap all_ascii_digits left ∙ ap (λ t. t && all_ascii_digits rest) digit;
      whole =
          ap (λ v. min 65537 (digits_value_after 10 v rest)) is
          ∙ capped-after (value * 10 + (get_or ds at 0 - 48)) rest
          ∙ ap (λ d. min 65537 (digits_value_after 10 (value * 10 + d) rest)) (flip written)
          ∙ ap (λ t. min 65537 (digits_value_after 10 value t)) (flip left)
          ∙ h.whole;
      most = omega (arith, is);
    }

and-false : (a : Bool) → (a && false) ≡ false
and-false true = refl
and-false false = refl

-- a byte that is no digit
pub no-digits : (ds : List ℕ) (at value : ℕ) → at < length ds → is_ascii_digit (get_or ds at 0) ≡ false → SoFar ds at value → is_digits ds ≡ false
no-digits ds at value lt other h =
    let none : all_ascii_digits ds ≡ false = h.digits_left ∙ ap all_ascii_digits (left-next ds at lt) ∙ ap (λ t. t && all_ascii_digits (drop (at + 1) ds)) other in
    ap (λ t. nat_lt 0 (length ds) && t) none ∙ and-false (nat_lt 0 (length ds))

-- all of them were read
pub record Read (text : List ℕ) (value : ℕ) : Type 0 where
  pub digits : is_digits text ≡ true
  pub same : min 65537 value ≡ min 65537 (digits_value 10 text)
  pub most : value ≤ 65537

drop-none : (ds : List ℕ) → drop (length ds) ds ≡ []
drop-none [] = refl
drop-none (d ∷ ds) = drop-none ds

pub all-read : (ds : List ℕ) (at value : ℕ) → at ≡ length ds → 0 < length ds → SoFar ds at value → Read ds value
all-read ds at value end some h =
    let none : drop at ds ≡ [] = ap (λ n. drop n ds) end ∙ drop-none ds in
    let more : nat_lt 0 (length ds) ≡ true = grind (arith, nat_tests, some) in
    record {
      digits = ap (λ t. t && all_ascii_digits ds) more ∙ h.digits_left ∙ ap all_ascii_digits none;
      same = ap (λ t. min 65537 (digits_value_after 10 value t)) (flip none) ∙ h.whole;
      most = h.most;
    }

ascii-digits : (ds : List ℕ) → all_ascii_digits ds ≡ true → IsAscii ds
ascii-digits [] h = IsAscii-nil
ascii-digits (d ∷ ds) h =
    (elim (is_ascii_digit d) as (λ v. is_ascii_digit d ≡ v → (v && all_ascii_digits ds) ≡ true → IsAscii (d ∷ ds)) [
      | true ↦ λ e h. let range = digit-low d e in let small : d < 128 = omega (arith, range.1) in IsAscii-cons d ds small (ascii-digits ds h)
      | false ↦ λ e h. let none : ⊥ = cc in absurd none
    ]) refl h

-- digits are a text
pub digits-text : (ds : List ℕ) → is_digits ds ≡ true → IsUtf8 ds
digits-text ds h =
    (elim (nat_lt 0 (length ds)) as (λ v. (v && all_ascii_digits ds) ≡ true → IsUtf8 ds) [
      | true ↦ λ e. IsUtf8-from_ascii ds (ascii-digits ds e)
      | false ↦ λ e. let none : ⊥ = cc in absurd none
    ]) h

pub some-of : (b : Bool) (n : ℕ) → b ≡ (n == 0) → b ≡ false → 0 < n
some-of b n is e = let h : (n == 0) ≡ false = flip is ∙ e in grind (arith, nat_tests, h)
