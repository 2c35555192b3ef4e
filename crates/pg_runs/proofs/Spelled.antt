-- Numbers that are spelled as characters are read back, whether or not they are codes of characters; and no text has more
-- characters than bytes.
use Rattle.std.proofs.Common.{◌≡◌, ◌∙◌, ℕ, zero, suc, ◌+◌, ◌-◌, ◌*◌, ◌/◌, ◌<◌, ◌≤◌, Bool, true, false, cond, List, [], ◌∷◌, ◌++◌, length, refl, sym, ap, arith, nat_lt}
use Rattle.std.proofs.lemmas.Bool.Decides.{nat_tests}
use Rattle.std.proofs.lemmas.Str.{chars-nil}
use Rattle.std.specs.Str.{continuation_len, lead_bits, chars_after, chars, encode_utf8_all}
use lib.Utf8.{next, encode}

whole : (c : ℕ) (bs : List ℕ) → chars_after zero c bs ≡ c ∷ chars bs
unfolding chars
whole c [] = refl
whole c (b ∷ bs) = refl

led : (a n v : ℕ) (bs : List ℕ) → n ≡ continuation_len a → v ≡ lead_bits a → chars (a ∷ bs) ≡ chars_after n v bs
unfolding chars
led a n v bs p q = λ i. chars_after (sym p i) (sym q i) bs

-- one to four bytes
by-size : (c : ℕ) (rest : List ℕ) (x y z : Bool) → nat_lt c 128 ≡ x → nat_lt c 2048 ≡ y → nat_lt c 65536 ≡ z
    → chars (cond x (c ∷ []) (cond y ((192 + c / 64) ∷ next c ∷ []) (cond z ((224 + c / 4096) ∷ next (c / 64) ∷ next c ∷ []) ((240 + c / 262144) ∷ next (c / 4096) ∷ next (c / 64) ∷ next c ∷ []))) ++ rest) ≡ c ∷ chars rest
by-size c rest true y z p q r =
    let lt : c < 128 = grind (arith, nat_tests) in
    led c zero c rest (grind arith) (grind arith) ∙ whole c rest
by-size c rest false true z p q r =
    let le : 128 ≤ c = grind (arith, nat_tests) in
    let lt : c < 2048 = grind (arith, nat_tests) in
    let low : 192 ≤ 192 + c / 64 = omega arith in
    let high : 192 + c / 64 < 224 = omega (arith, lt) in
    let is : ((192 + c / 64) - 192) * 64 + (next c - 128) ≡ c = omega arith in
    led (192 + c / 64) (suc zero) ((192 + c / 64) - 192) (next c ∷ rest) (grind arith) (grind arith) ∙ whole _ rest ∙ ap (λ v. v ∷ chars rest) is
by-size c rest false false true p q r =
    let le : 2048 ≤ c = grind (arith, nat_tests) in
    let lt : c < 65536 = grind (arith, nat_tests) in
    let low : 224 ≤ 224 + c / 4096 = omega arith in
    let high : 224 + c / 4096 < 240 = omega (arith, lt) in
    let is : (((224 + c / 4096) - 224) * 64 + (next (c / 64) - 128)) * 64 + (next c - 128) ≡ c = omega arith in
    led (224 + c / 4096) (suc (suc zero)) ((224 + c / 4096) - 224) (next (c / 64) ∷ next c ∷ rest) (grind arith) (grind arith) ∙ whole _ rest ∙ ap (λ v. v ∷ chars rest) is
by-size c rest false false false p q r =
    let low : 240 ≤ 240 + c / 262144 = omega arith in
    let is : ((((240 + c / 262144) - 240) * 64 + (next (c / 4096) - 128)) * 64 + (next (c / 64) - 128)) * 64 + (next c - 128) ≡ c = omega arith in
    led (240 + c / 262144) (suc (suc (suc zero))) ((240 + c / 262144) - 240) (next (c / 4096) ∷ next (c / 64) ∷ next c ∷ rest) (grind arith) (grind arith) ∙ whole _ rest ∙ ap (λ v. v ∷ chars rest) is

one : (c : ℕ) (rest : List ℕ) → chars (encode c ++ rest) ≡ c ∷ chars rest
unfolding encode
one c rest = by-size c rest (nat_lt c 128) (nat_lt c 2048) (nat_lt c 65536) refl refl refl

pub spelled : (cs : List ℕ) → chars (encode_utf8_all cs) ≡ cs
spelled [] = chars-nil
spelled (c ∷ cs) = one c (encode_utf8_all cs) ∙ ap (λ xs. c ∷ xs) (spelled cs)

-- ---- how many characters there are

after-few : (n c : ℕ) (bs : List ℕ) → length (chars_after n c bs) ≤ suc (length bs)
after-few zero c [] = omega arith
after-few zero c (b ∷ bs) = omega (arith, after-few (continuation_len b) (lead_bits b) bs)
after-few (suc n) c [] = omega arith
after-few (suc n) c (b ∷ bs) = omega (arith, after-few n (c * 64 + (b - 128)) bs)

pub chars-few : (bs : List ℕ) → length (chars bs) ≤ length bs
unfolding chars
chars-few [] = omega arith
chars-few (b ∷ bs) = after-few (continuation_len b) (lead_bits b) bs
