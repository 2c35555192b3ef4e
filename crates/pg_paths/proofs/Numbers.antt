-- A number without leading zeros.
use Rattle.std.proofs.Common.{◌≡◌, ◌≢◌, ◌≤◌, ◌<◌, ◌^◌, ℕ, true, false, not, ◌&&◌, ◌==◌, cond, List, length, Some, None, Result, Ok, Err, MatchResult, sym as flip, ◌∙◌, ap, subst, refl, arith, get_or}
use Rattle.std.specs.Prelude.{nat_lt, nat_le, slice_index}
use Rattle.std.specs.Char.{is_ascii_digit}
use Rattle.std.specs.Str.{all_ascii_digits}
use Rattle.std.specs.Str.Parse.{digits_value, ParsesUnsigned}
use Rattle.std.proofs.lemmas.Str.Parse.{IsNumeralModel, numerals_by_value, tells_all_ascii_digits, parse_plain}
use Rattle.std.proofs.lemmas.Bool.Decides.{nat_tests}
use Rattle.pg_messages.specs.Paths.{is_digits, number_to}

own : IsNumeralModel (λ ds. all_ascii_digits ds ≡ true) (digits_value 10)
own = numerals_by_value (λ ds. all_ascii_digits ds ≡ true) tells_all_ascii_digits

-- the first byte is a digit, and so no plus
pub no-plus : (x b : ℕ) → x ≡ b → is_ascii_digit b ≡ true → x ≢ 43
no-plus x b e digit plus = let bad : is_ascii_digit 43 ≡ true = subst (λ y. is_ascii_digit y ≡ true) (flip e ∙ plus) digit in cc

number-some : (top n : ℕ) (text : List ℕ) → all_ascii_digits text ≡ true → 0 < length text → get_or text 0 0 ≢ 48 → n ≡ digits_value 10 text → n ≤ top → Some n ≡ number_to top text
number-some top n text digits some no_zero is le =
    let a : nat_lt 0 (length text) ≡ true = grind (arith, nat_tests, some) in
    let b : (slice_index text 0 == 48) ≡ false = grind (arith, nat_tests, no_zero) in
    let c : nat_le (digits_value 10 text) top ≡ true = grind (arith, nat_tests, is, le) in
    rw (a, digits, b, c) (ap Some is)

number-large : (top n : ℕ) (text : List ℕ) → n ≡ digits_value 10 text → top < n → None ≡ number_to top text
number-large top n text is lt =
    let c : nat_le (digits_value 10 text) top ≡ false = grind (arith, nat_tests, is, lt) in
    rw c (elim (is_digits text && not (slice_index text 0 == 48)) as (λ v. None ≡ cond (v && false) (Some (digits_value 10 text)) None) [ true ↦ refl | false ↦ refl ])

number-none : (top : ℕ) (text : List ℕ) → top < 2 ^ 32 → ((all_ascii_digits text ≡ true) × (0 < length text) × (digits_value 10 text < 2 ^ 32) → ⊥) → None ≡ number_to top text
number-none top text small bad =
    (elim (all_ascii_digits text) as (λ v. all_ascii_digits text ≡ v → None ≡ cond ((nat_lt 0 (length text) && v) && not (slice_index text 0 == 48) && nat_le (digits_value 10 text) top) (Some (digits_value 10 text)) None) [
      | false ↦ λ e. (elim (nat_lt 0 (length text)) as (λ v. None ≡ cond ((v && false) && not (slice_index text 0 == 48) && nat_le (digits_value 10 text) top) (Some (digits_value 10 text)) None) [ true ↦ refl | false ↦ refl ])
      | true ↦ λ e.
          (elim (nat_lt 0 (length text)) as (λ v. nat_lt 0 (length text) ≡ v → None ≡ cond ((v && true) && not (slice_index text 0 == 48) && nat_le (digits_value 10 text) top) (Some (digits_value 10 text)) None) [
            | false ↦ λ f. refl
            | true ↦ λ f.
                (elim (nat_le (digits_value 10 text) top) as (λ v. nat_le (digits_value 10 text) top ≡ v → None ≡ cond (not (slice_index text 0 == 48) && v) (Some (digits_value 10 text)) None) [
                  | true ↦ λ t.
                      let few : digits_value 10 text < 2 ^ 32 = grind (arith, nat_tests, t, small) in
                      let some : 0 < length text = grind (arith, nat_tests, f) in
                      absurd (bad (e, some, few))
                  | false ↦ λ t. (elim (not (slice_index text 0 == 48)) as (λ v. None ≡ cond (v && false) (Some (digits_value 10 text)) None) [ true ↦ refl | false ↦ refl ])
                ]) refl
          ]) refl
    ]) refl

-- what parsing a text says of it as a number
pub number-told : {E : Type 0} (top : ℕ) (text : List ℕ) (r : Result ℕ E) → ParsesUnsigned 32 10 text r → get_or text 0 0 ≢ 43 → get_or text 0 0 ≢ 48 → top < 2 ^ 32
    → MatchResult r (λ n. (n ≤ top → Some n ≡ number_to top text) × (top < n → None ≡ number_to top text)) (λ e. None ≡ number_to top text)
number-told {E} top text (Ok n) h plus no_zero small =
    let is = parse_plain own {E = E} 32 text (Ok n) h plus in
    (λ le. number-some top n text is.0.0 is.0.1 no_zero is.1 le, λ lt. number-large top n text is.1 lt)
number-told {E} top text (Err e) h plus no_zero small = number-none top text small (λ all. parse_plain own {E = E} 32 text (Err e) h plus all)
