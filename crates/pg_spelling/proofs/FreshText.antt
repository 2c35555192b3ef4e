-- A name made fresh is the text of a name token again.
use Rattle.std.proofs.Common.{◌≡◌, ℕ, suc, ◌+◌, ◌/◌, ◌%◌, ◌^◌, ◌<◌, ◌≤◌, ◌==◌, Bool, true, false, cond, ◌&&◌, ◌||◌, nat_lt, List, [], ◌∷◌, ◌++◌, length, None, sym, ◌∙◌, ap, refl, subst, arith, decimal}
use Rattle.std.proofs.lemmas.Bool.{and_parts, and_from, or_parts}
use Rattle.std.proofs.lemmas.Bool.Decides.{nat_tests}
use Rattle.std.proofs.lemmas.Slice.Eq.{bytes_eq-Decides}
use Rattle.std.proofs.lemmas.Fmt.{decimal_by_steps}
use Rattle.std.proofs.lemmas.Str.{chars-encodes, encodes-chars, encodes-IsAscii, chars_from_encodes, chars-append, scalars-chars, encode_ascii, IsUtf8-append, IsUtf8-from_ascii}
use Rattle.std.proofs.lemmas.Str.Ascii.{IsAscii-nil, IsAscii-cons}
use Rattle.std.specs.Char.{is_ascii_digit, encode_utf8}
use Rattle.std.specs.Str.{bytes_eq, chars, IsUtf8, IsAscii, encode_utf8_all, all_scalars}
use Rattle.pg_base.specs.Characters.{character, is_name_character, begins_with_letter, name_length}
use Rattle.pg_base.specs.Signs.{sign_names, sign_of_name}
use Rattle.pg_base.specs.Layout.{IsName}
use Rattle.pg_spelling.specs.Fresh.{is_taken, kept, stem, numbered, free_number}
use Rattle.pg_spelling.specs.TextBack.{IsNameToken, IsFreeName, FreshNameLaw}
use Rattle.pg_spelling.proofs.Fresh.{by_bool, digit-below, ends_in_digit, ends-append, decimal-ends, numbered-plain, free-bounds}
use Rattle.pg_spelling.proofs.Lexed.{digit-no_letter, differs, no-row, goes_on, letter-front, IsOutside, no-prefix}

-- ---- digits

abbrev all_digits : List ℕ → Bool
all_digits [] = true
all_digits (c ∷ cs) = is_ascii_digit c && all_digits cs

digits-append : (xs ys : List ℕ) → all_digits xs ≡ true → all_digits ys ≡ true → all_digits (xs ++ ys) ≡ true
digits-append [] ys h k = k
digits-append (x ∷ xs) ys h k = let p = and_parts _ _ h in and_from _ _ p.0 (digits-append xs ys p.1 k)

one-digit : (n : ℕ) → n < 10 → all_digits ((48 + n) ∷ []) ≡ true
one-digit n lt = and_from _ _ (digit-below n lt) refl

decimal-digits : (n : ℕ) → n < 2 ^ 64 → all_digits (decimal n) ≡ true
decimal-digits = decimal_by_steps (λ n ds. all_digits ds ≡ true) one-digit (λ n ds le h. digits-append ds ((48 + n % 10) ∷ []) h (one-digit (n % 10) (omega arith)))

digit-small : (c : ℕ) → is_ascii_digit c ≡ true → c < 128
digit-small c h = grind (arith, nat_tests, h)

digits-ascii : (ds : List ℕ) → all_digits ds ≡ true → IsAscii ds
digits-ascii [] h = IsAscii-nil
digits-ascii (d ∷ ds) h = let p = and_parts _ _ h in IsAscii-cons d ds (digit-small d p.0) (digits-ascii ds p.1)

digits-chars : (ds : List ℕ) → all_digits ds ≡ true → chars ds ≡ ds
digits-chars ds h =
    let ascii : IsAscii ds = digits-ascii ds h in
    sym (chars_from_encodes ds ds (IsUtf8-from_ascii ds ascii) (encodes-IsAscii ds ascii))

digits-letter : (ds : List ℕ) → all_digits ds ≡ true → begins_with_letter ds ≡ false
digits-letter [] h = refl
digits-letter (d ∷ ds) h = digit-no_letter d (and_parts _ _ h).0

digits-outside : (ds : List ℕ) → all_digits ds ≡ true → IsOutside ds
digits-outside [] h = tt
digits-outside (d ∷ ds) h = let is = (and_parts _ _ h).0 in (digit-no_letter d is, differs is_ascii_digit 46 d refl is)

digit-in-name : (c : ℕ) → is_ascii_digit c ≡ true → is_name_character c ≡ true
digit-in-name c is = rw (digit-no_letter c is, is) refl

digits-name : (ds : List ℕ) → all_digits ds ≡ true → name_length ds ≡ length ds
digits-name [] h = refl
digits-name (d ∷ ds) h =
    let p = and_parts _ _ h in
    ap (λ b. cond (b || ((d == character ".") && begins_with_letter ds)) (suc (name_length ds)) 0) (digit-in-name d p.0) ∙ ap suc (digits-name ds p.1)

-- ---- a name is its stem and digits

abbrev NoDigits : List ℕ → Type 0
NoDigits [] = Unit {0}
NoDigits (b ∷ bs) = (is_ascii_digit b ≡ false) × NoDigits bs

high-no_digit : (b : ℕ) → 128 ≤ b → is_ascii_digit b ≡ false
high-no_digit b le = grind (arith, nat_tests, le)

-- what holds of each length of a character's bytes
of-bytes : (P : List ℕ → Type 0) (a b d : Bool) (w x y z : List ℕ) → P w → P x → P y → P z → P (cond a w (cond b x (cond d y z)))
of-bytes P true b d w x y z h i j k = h
of-bytes P false true d w x y z h i j k = i
of-bytes P false false true w x y z h i j k = j
of-bytes P false false false w x y z h i j k = k

encode-by : (P : List ℕ → Type 0) (c : ℕ) → P (c ∷ []) → ((a b : ℕ) → 128 ≤ a → 128 ≤ b → P (a ∷ b ∷ [])) → ((a b d : ℕ) → 128 ≤ a → 128 ≤ b → 128 ≤ d → P (a ∷ b ∷ d ∷ []))
    → ((a b d e : ℕ) → 128 ≤ a → 128 ≤ b → 128 ≤ d → 128 ≤ e → P (a ∷ b ∷ d ∷ e ∷ [])) → P (encode_utf8 c)
unfolding lib.Utf8.encode
encode-by P c one two three four =
    let a : ℕ = 192 + c / 64 in
    let b : ℕ = 224 + c / 4096 in
    let d : ℕ = 240 + c / 262144 in
    let e : ℕ = 128 + c / 4096 % 64 in
    let f : ℕ = 128 + c / 64 % 64 in
    let g : ℕ = 128 + c % 64 in
    of-bytes P (nat_lt c 128) (nat_lt c 2048) (nat_lt c 65536) (c ∷ []) (a ∷ g ∷ []) (b ∷ f ∷ g ∷ []) (d ∷ e ∷ f ∷ g ∷ []) one
    (two a g (omega arith) (omega arith)) (three b f g (omega arith) (omega arith) (omega arith)) (four d e f g (omega arith) (omega arith) (omega arith) (omega arith))

no_digits : (c : ℕ) → is_ascii_digit c ≡ false → NoDigits (encode_utf8 c)
no_digits c off =
    encode-by NoDigits c (off, tt) (λ a b h i. (high-no_digit a h, (high-no_digit b i, tt))) (λ a b d h i j. (high-no_digit a h, (high-no_digit b i, (high-no_digit d j, tt))))
    (λ a b d e h i j k. (high-no_digit a h, (high-no_digit b i, (high-no_digit d j, (high-no_digit e k, tt)))))

kept-other : (b : ℕ) (bs : List ℕ) → is_ascii_digit b ≡ false → kept b bs ≡ b ∷ bs
kept-other b [] off = rw off refl
kept-other b (d ∷ ds) off = refl

stem-other : (bs xs : List ℕ) → NoDigits bs → stem (bs ++ xs) ≡ bs ++ stem xs
stem-other [] xs h = refl
stem-other (b ∷ bs) xs h = ap (kept b) (stem-other bs xs h.1) ∙ kept-other b (bs ++ stem xs) h.0

kept-some : (b c : ℕ) (bs cs : List ℕ) → bs ≡ c ∷ cs → kept b bs ≡ b ∷ bs
kept-some b c bs cs e = ap (kept b) e ∙ ap (λ x. b ∷ x) (sym e)

-- bytes before a stem that isn't empty
record Some (xs : List ℕ) : Type 0 where
  first : ℕ
  rest : List ℕ
  is : xs ≡ first ∷ rest

some-before : (bs xs : List ℕ) → Some xs → Some (bs ++ xs)
some-before [] xs h = h
some-before (b ∷ bs) xs h = record { first = b; rest = bs ++ xs; is = refl }

stem-some : (bs xs : List ℕ) → Some (stem xs) → stem (bs ++ xs) ≡ bs ++ stem xs
stem-some [] xs h = refl
stem-some (b ∷ bs) xs h =
    let s : Some (bs ++ stem xs) = some-before bs (stem xs) h in
    ap (kept b) (stem-some bs xs h) ∙ kept-some b s.first (bs ++ stem xs) s.rest s.is

encode-some : (c : ℕ) (cs : List ℕ) → Some (encode_utf8_all (c ∷ cs))
encode-some c cs =
    let more : List ℕ = encode_utf8_all cs in
    encode-by (λ x. Some (x ++ more)) c (record { first = c; rest = more; is = refl }) (λ a b h i. record { first = a; rest = b ∷ more; is = refl })
    (λ a b d h i j. record { first = a; rest = b ∷ d ∷ more; is = refl }) (λ a b d e h i j k. record { first = a; rest = b ∷ d ∷ e ∷ more; is = refl })

-- the characters of the stem, and the digits behind it
record Cut (cs : List ℕ) : Type 0 where
  front : List ℕ
  back : List ℕ
  whole : cs ≡ front ++ back
  digits : all_digits back ≡ true
  stem_is : stem (encode_utf8_all cs) ≡ encode_utf8_all front

cut-on : (c : ℕ) (cs front back : List ℕ) → cs ≡ front ++ back → all_digits back ≡ true → stem (encode_utf8_all cs) ≡ encode_utf8_all front → Cut (c ∷ cs)
cut-on c cs (f ∷ front) back whole digits is =
    let s : Some (encode_utf8_all (f ∷ front)) = encode-some f front in
    record {
      front = c ∷ f ∷ front;
      back = back;
      whole = ap (λ x. c ∷ x) whole;
      digits = digits;
      stem_is =
          stem-some (encode_utf8 c) (encode_utf8_all cs) (record { first = s.first; rest = s.rest; is = is ∙ s.is })
          ∙ ap (λ x. encode_utf8 c ++ x) is;
    }
cut-on c cs [] back whole digits is =
    by_bool (λ b. is_ascii_digit c ≡ b → Cut (c ∷ cs)) (is_ascii_digit c)
    (λ _ on. record {
      front = [];
      back = c ∷ back;
      whole = ap (λ x. c ∷ x) whole;
      digits = and_from _ _ on digits;
      stem_is =
          ap (λ x. stem (x ++ encode_utf8_all cs)) (encode_ascii c (digit-small c on))
          ∙ ap (kept c) is ∙ ap (λ b. cond b [] (c ∷ [])) on;
    })
    (λ _ off. record {
      front = c ∷ [];
      back = back;
      whole = ap (λ x. c ∷ x) whole;
      digits = digits;
      stem_is = stem-other (encode_utf8 c) (encode_utf8_all cs) (no_digits c off) ∙ ap (λ x. encode_utf8 c ++ x) is;
    })
    refl

cut : (cs : List ℕ) → Cut cs
cut [] = record { front = []; back = []; whole = refl; digits = refl; stem_is = refl }
cut (c ∷ cs) = let r = cut cs in cut-on c cs r.front r.back r.whole r.digits r.stem_is

-- ---- other digits behind the stem

letter-renumbered : (front back ds : List ℕ) → all_digits back ≡ true → all_digits ds ≡ true → begins_with_letter (front ++ back) ≡ begins_with_letter (front ++ ds)
letter-renumbered front back ds h k = letter-front front back (digits-letter back h) ∙ sym (letter-front front ds (digits-letter ds k))

length-renumbered : (front back ds : List ℕ) → all_digits back ≡ true → all_digits ds ≡ true → name_length (front ++ back) ≡ length (front ++ back) → name_length (front ++ ds) ≡ length (front ++ ds)
length-renumbered [] back ds h k all = digits-name ds k
length-renumbered (f ∷ front) back ds h k all =
    by_bool (λ b. goes_on f (front ++ back) ≡ b → cond b (suc (name_length (front ++ back))) 0 ≡ suc (length (front ++ back)) → name_length (f ∷ (front ++ ds)) ≡ suc (length (front ++ ds))) (goes_on f (front ++ back))
    (λ _ is e.
    let same : goes_on f (front ++ ds) ≡ true = ap (λ b. is_name_character f || ((f == character ".") && b)) (sym (letter-renumbered front back ds h k)) ∙ is in
    ap (λ b. cond b (suc (name_length (front ++ ds))) 0) same ∙ ap suc (length-renumbered front back ds h k (omega (arith, e))))
    (λ _ is e. absurd (omega (arith, e))) refl all

name-renumbered : (front back ds : List ℕ) → all_digits back ≡ true → all_digits ds ≡ true → IsName (front ++ back) → IsName (front ++ ds)
name-renumbered front back ds h k name =
    (sym (letter-renumbered front back ds h k) ∙ name.0, length-renumbered front back ds h k name.1, no-prefix front ds back (digits-outside ds k) name.2)

scalars-front : (cs ds : List ℕ) → all_scalars (cs ++ ds) ≡ true → all_scalars cs ≡ true
scalars-front [] ds h = refl
scalars-front (c ∷ cs) ds h = let p = and_parts _ _ h in and_from _ _ p.0 (scalars-front cs ds p.1)

-- no sign's name ends in a digit
no-sign : (text : List ℕ) → ends_in_digit text ≡ true → sign_of_name text ≡ None
no-sign text h = no-row (λ spelling. bytes_eq text spelling) ends_in_digit sign_names (λ x e. ap ends_in_digit (sym ((bytes_eq-Decides text x).0 e)) ∙ h) refl

numbered-token : (text : List ℕ) (n : ℕ) → n < 2 ^ 64 → IsNameToken text → length (numbered (stem text) n) ≤ 48 → IsNameToken (numbered (stem text) n)
numbered-token text n lt h short =
    let r : Cut (chars text) = cut (chars text) in
    let ds : all_digits (decimal n) ≡ true = decimal-digits n lt in
    let made : List ℕ = numbered (stem text) n in
    let stem_is : stem text ≡ encode_utf8_all r.front = ap stem (sym (encodes-chars text h.0)) ∙ r.stem_is in
    let scalars : all_scalars r.front ≡ true = scalars-front r.front r.back (ap all_scalars (sym r.whole) ∙ scalars-chars text h.0) in
    let front_utf8 : IsUtf8 (encode_utf8_all r.front) = (r.front, (scalars, refl)) in
    let made_is : made ≡ encode_utf8_all r.front ++ decimal n = ap (λ x. x ++ decimal n) stem_is in
    let utf8 : IsUtf8 made = subst IsUtf8 (sym made_is) (IsUtf8-append (encode_utf8_all r.front) (decimal n) front_utf8 (IsUtf8-from_ascii (decimal n) (digits-ascii (decimal n) ds))) in
    let chars_are : chars made ≡ r.front ++ decimal n =
    ap chars made_is ∙ chars-append (encode_utf8_all r.front) (decimal n) front_utf8 ∙ ap (λ x. x ++ chars (decimal n)) (chars-encodes r.front scalars) ∙ ap (λ x. r.front ++ x) (digits-chars (decimal n) ds) in
    let back : encode_utf8_all (chars made) ≡ made = encodes-chars made utf8 in
    let name : IsName (chars made) = subst IsName (sym chars_are) (name-renumbered r.front r.back (decimal n) r.digits ds (subst IsName r.whole h.1.0)) in
    let few : length (encode_utf8_all (chars made)) ≤ 48 = subst (λ x. length x ≤ 48) (sym back) short in
    let sign : sign_of_name (encode_utf8_all (chars made)) ≡ None = ap sign_of_name back ∙ no-sign made (ends-append (stem text) (decimal n) (decimal-ends n lt)) in
    (utf8, (name, refl, few, sign))

pub fresh-name-law : FreshNameLaw
fresh-name-law names x room h short =
    by_bool (λ b. is_taken names x ≡ b → length (cond b (numbered (stem x) (free_number names (stem x) (length names) 1)) x) ≤ 48 → IsFreeName (cond b (numbered (stem x) (free_number names (stem x) (length names) 1)) x)) (is_taken names x)
    (λ _ is few.
    let bounds = free-bounds names (stem x) (length names) 1 in
    let lt : free_number names (stem x) (length names) 1 < 2 ^ 64 = omega (arith, bounds.1, room) in
    (numbered-token x (free_number names (stem x) (length names) 1) lt h few, numbered-plain (stem x) (free_number names (stem x) (length names) 1) lt))
    (λ _ is few. (h, (or_parts _ _ is).1))
    refl short
