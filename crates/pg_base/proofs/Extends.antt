-- What a front counts is what is counted where a rest stands behind it.
use Rattle.std.proofs.Common.{◌≡◌, ℕ, zero, suc, ◌+◌, ◌-◌, ◌<◌, ◌≤◌, Bool, true, false, cond, not, nat_le, List, [], ◌∷◌, ◌++◌, length, drop, Some, codes, ◌==◌, sym, ◌∙◌, ap, refl, arith}
use Rattle.std.specs.Char.{is_ascii_digit}
use Rattle.pg_base.specs.Characters.{character, begins_with_letter, begins_with, begins_with_prefix_name, name_length, number_length, line_length, more, opens_comment, closes_comment, comment_length, text_length}
use Rattle.pg_base.specs.Layout.{IsName}
use Rattle.pg_base.proofs.Runs.{more_some, goes_on, same_goes_on, name_length-cons, turn-opens, turn-ends, turn-closes, turn-goes_on, front_letter}
use Rattle.pg_base.proofs.Pieces.{and_left, and_right, begins-split}

-- ---- lines, numbers, names

-- a count of characters, one at a time, while a test holds of the character and those behind it
record Counts (measure : List ℕ → ℕ) (test : ℕ → List ℕ → Bool) : Type 0 where
  on : (c : ℕ) (cs : List ℕ) → test c cs ≡ true → measure (c ∷ cs) ≡ suc (measure cs)
  off : (c : ℕ) (cs : List ℕ) → test c cs ≡ false → measure (c ∷ cs) ≡ 0

one-extends : (measure : List ℕ → ℕ) (test : ℕ → List ℕ → Bool) → Counts measure test → (c : ℕ) (front rest : List ℕ) → test c front ≡ test c (front ++ rest)
    → (measure front ≡ length front → measure (front ++ rest) ≡ length front)
    → measure (c ∷ front) ≡ suc (length front) → measure (c ∷ (front ++ rest)) ≡ suc (length front)
one-extends measure test counts c front rest same next all = by_test _ refl
  where
    by_test : (b : Bool) → test c front ≡ b → measure (c ∷ (front ++ rest)) ≡ suc (length front)
    by_test true is = counts.on c (front ++ rest) (sym same ∙ is) ∙ ap suc (next (omega (arith, counts.on c front is, all)))
    by_test false is = absurd (omega (arith, counts.off c front is, all))

pub line-extends : (front rest : List ℕ) → line_length front ≡ length front → line_length rest ≡ 0 → line_length (front ++ rest) ≡ length front
line-extends [] rest all stops = stops
line-extends (c ∷ front) rest all stops =
    one-extends line_length (λ d ds. not (d == 10)) (record { on = λ d ds h. rw (not_true _ h) refl; off = λ d ds h. rw (not_false _ h) refl })
    c front rest refl (λ h. line-extends front rest h stops) all
  where
    not_true : (b : Bool) → not b ≡ true → b ≡ false
    not_true true h = sym h
    not_true false h = refl

    not_false : (b : Bool) → not b ≡ false → b ≡ true
    not_false true h = refl
    not_false false h = sym h

pub number-extends : (front rest : List ℕ) → number_length front ≡ length front → number_length rest ≡ 0 → number_length (front ++ rest) ≡ length front
number-extends [] rest all stops = stops
number-extends (c ∷ front) rest all stops =
    one-extends number_length (λ d ds. is_ascii_digit d) (record { on = λ d ds h. rw h refl; off = λ d ds h. rw h refl })
    c front rest refl (λ h. number-extends front rest h stops) all

pub name-extends : (front rest : List ℕ) → name_length front ≡ length front → name_length rest ≡ 0 → name_length (front ++ rest) ≡ length front
name-extends [] rest all stops = stops
name-extends (c ∷ front) rest all stops =
    one-extends name_length goes_on (record { on = λ d ds h. name_length-cons d ds ∙ rw h refl; off = λ d ds h. name_length-cons d ds ∙ rw h refl })
    c front rest (same_goes_on c front (front ++ rest) (front_letter (front ++ rest) front rest refl stops)) (λ h. name-extends front rest h stops) all

-- ---- texts and comments

pub text-extends : (escaped : Bool) (n : ℕ) (front rest : List ℕ) → text_length escaped front ≡ Some n → text_length escaped (front ++ rest) ≡ Some n
text-extends true n [] rest h = cc
text-extends false n [] rest h = cc
text-extends true n (c ∷ front) rest h =
    let m = more_some 1 n (text_length false front) h in
    ap (more 1) (text-extends false m.less front rest m.is) ∙ ap Some m.sum
text-extends false n (c ∷ front) rest h = by_quote (λ m. text-extends (c == character "\\") m front rest) _ refl h
  where
    by_quote : ((m : ℕ) → text_length (c == character "\\") front ≡ Some m → text_length (c == character "\\") (front ++ rest) ≡ Some m)
        → (b : Bool) → (c == character "\"") ≡ b → cond b (Some 1) (more 1 (text_length (c == character "\\") front)) ≡ Some n → text_length false (c ∷ (front ++ rest)) ≡ Some n
    by_quote next true is h = rw is h
    by_quote next false is h =
        let m = more_some 1 n (text_length (c == character "\\") front) h in
        rw is (ap (more 1) (next m.less m.is) ∙ ap Some m.sum)

comment_turn : (depth n c d : ℕ) (cs rest : List ℕ)
    → ((e m : ℕ) → comment_length e cs ≡ Some m → comment_length e (cs ++ rest) ≡ Some m)
    → ((m : ℕ) → comment_length depth (d ∷ cs) ≡ Some m → comment_length depth (d ∷ (cs ++ rest)) ≡ Some m)
    → (a b e : Bool) → opens_comment c d ≡ a → closes_comment c d ≡ b → nat_le depth 1 ≡ e
    → comment_length depth (c ∷ d ∷ cs) ≡ Some n → comment_length depth (c ∷ d ∷ (cs ++ rest)) ≡ Some n
comment_turn depth n c d cs rest behind next true b e opens closes deep h =
    let m = more_some 2 n (comment_length (depth + 1) cs) (sym (turn-opens depth c d cs opens) ∙ h) in
    turn-opens depth c d (cs ++ rest) opens ∙ ap (more 2) (behind (depth + 1) m.less m.is) ∙ ap Some m.sum
comment_turn depth n c d cs rest behind next false true true opens closes deep h =
    turn-ends depth c d (cs ++ rest) opens closes deep ∙ sym (turn-ends depth c d cs opens closes deep) ∙ h
comment_turn depth n c d cs rest behind next false true false opens closes deep h =
    let m = more_some 2 n (comment_length (depth - 1) cs) (sym (turn-closes depth c d cs opens closes deep) ∙ h) in
    turn-closes depth c d (cs ++ rest) opens closes deep ∙ ap (more 2) (behind (depth - 1) m.less m.is) ∙ ap Some m.sum
comment_turn depth n c d cs rest behind next false false e opens closes deep h =
    let m = more_some 1 n (comment_length depth (d ∷ cs)) (sym (turn-goes_on depth c d cs opens closes) ∙ h) in
    turn-goes_on depth c d (cs ++ rest) opens closes ∙ ap (more 1) (next m.less m.is) ∙ ap Some m.sum

pub comment-extends : (depth n : ℕ) (front rest : List ℕ) → comment_length depth front ≡ Some n → comment_length depth (front ++ rest) ≡ Some n
comment-extends depth n [] rest h = cc
comment-extends depth n (c ∷ []) rest h = cc
comment-extends depth n (c ∷ d ∷ cs) rest h =
    comment_turn depth n c d cs rest (λ e m. comment-extends e m cs rest) (λ m. comment-extends depth m (d ∷ cs) rest) _ _ _ refl refl refl h

-- ---- `MyNat.`

begins-short : (prefix front rest : List ℕ) → begins_with prefix (front ++ rest) ≡ true → length prefix ≤ length front → begins_with prefix front ≡ true
begins-short [] front rest h le = refl
begins-short (p ∷ prefix) [] rest h le = absurd (omega (arith, le))
begins-short (p ∷ prefix) (c ∷ front) rest h le = rw (and_left (c == p) _ h) (begins-short prefix front rest (and_right (c == p) _ h) (omega (arith, le)))

letter-short : (n : ℕ) (front rest : List ℕ) → begins_with_letter (drop n (front ++ rest)) ≡ true → n < length front → begins_with_letter (drop n front) ≡ true
letter-short n [] rest h lt = absurd (omega (arith, lt))
letter-short zero (c ∷ front) rest h lt = h
letter-short (suc n) (c ∷ front) rest h lt = letter-short n front rest h (omega (arith, lt))

-- a letter goes on a name
letter-length : (cs : List ℕ) → begins_with_letter cs ≡ true → 0 < name_length cs
letter-length [] h = cc
letter-length (c ∷ cs) h = let is : name_length (c ∷ cs) ≡ suc (name_length cs) = rw h refl in omega (arith, is)

prefix-length : (cs : List ℕ) → begins_with_prefix_name cs ≡ true → 6 < name_length cs
prefix-length cs h =
    let letter : begins_with_letter (drop 6 cs) ≡ true = and_right (begins_with (codes "MyNat.") cs) _ h in
    let split : cs ≡ codes "MyNat." ++ drop 6 cs = begins-split (codes "MyNat.") cs (and_left _ _ h) in
    let long : name_length (codes "MyNat." ++ drop 6 cs) ≡ suc (suc (suc (suc (suc (suc (name_length (drop 6 cs))))))) = rw letter refl in
    omega (arith, ap name_length split, long, letter-length (drop 6 cs) letter)

-- no `MyNat.` stands before a name and what doesn't go on it
pub prefix-extends : (front rest : List ℕ) → IsName front → name_length rest ≡ 0 → begins_with_prefix_name (front ++ rest) ≡ false
prefix-extends front rest name stops = by_test _ refl
  where
    by_test : (b : Bool) → begins_with_prefix_name (front ++ rest) ≡ b → begins_with_prefix_name (front ++ rest) ≡ false
    by_test false is = is
    by_test true is =
        let long : 6 < length front = omega (arith, prefix-length (front ++ rest) is, name-extends front rest name.1 stops) in
        let begins : begins_with (codes "MyNat.") front ≡ true = begins-short (codes "MyNat.") front rest (and_left _ _ is) (omega (arith, long)) in
        let letter : begins_with_letter (drop 6 front) ≡ true = letter-short 6 front rest (and_right (begins_with (codes "MyNat.") (front ++ rest)) _ is) long in
        let yes : begins_with_prefix_name front ≡ true = rw begins letter in
        let none : begins_with_prefix_name front ≡ false = name.2 in
        cc
