-- Lists of names, a piece at a time.
use Rattle.std.proofs.Common.{◌≡◌, ℕ, zero, suc, ◌+◌, ◌-◌, ◌<◌, ◌≤◌, Bool, true, false, cond, ◌||◌, List, [], ◌∷◌, ◌++◌, length, take, map, reverse, get_or, refl, ap, sym, ◌∙◌, arith, length-append}
use Rattle.std.specs.Prelude.{Option, Some, None, is_some, position, nat_lt, ◌^◌, decimal}
use Rattle.std.specs.Char.{is_ascii_digit}
use Rattle.std.specs.List.{list_any, position_or_len}
use Rattle.std.specs.Str.{bytes_eq}
use Rattle.std.proofs.lemmas.Bool.{false≢true}
use Rattle.std.proofs.lemmas.Bool.Decides.{nat_tests}
use Rattle.std.proofs.lemmas.List.{take_more, reverse-append, length-reverse}
use Rattle.std.proofs.lemmas.List.Folds.{list_any-append}
use Rattle.pg_logic.specs.Declarations.{Name}
use Rattle.pg_spelling.specs.Fresh.{is_taken, stem, kept, numbered, free_number, fresh}
use Rattle.pg_spelling.specs.Named.{live}
use Rattle.pg_base.specs.Reserved.{is_reserved}
use Rattle.std.proofs.lemmas.Fmt.{decimal_nonempty}

-- ---- look-ups

pub live-append : (xs ys : List (Option Name)) → live (xs ++ ys) ≡ live xs ++ live ys
live-append [] ys = refl
live-append (None ∷ xs) ys = live-append xs ys
live-append (Some x ∷ xs) ys = ap (λ l. x ∷ l) (live-append xs ys)

pub live-length : (xs : List (Option Name)) → length (live xs) ≤ length xs
live-length [] = omega arith
live-length (None ∷ xs) = omega (arith, live-length xs)
live-length (Some x ∷ xs) = omega (arith, live-length xs)

-- a place is found exactly where one passes
below-suc : (a b : ℕ) → is_some (cond (nat_lt (suc a) (suc b)) (Some (suc a)) None) ≡ is_some (cond (nat_lt a b) (Some a) None)
below-suc a b = same (nat_lt (suc a) (suc b)) (nat_lt a b) (grind (arith, nat_tests))
  where
    same : (x y : Bool) → x ≡ y → is_some (cond x (Some (suc a)) None) ≡ is_some (cond y (Some a) None)
    same true true e = refl
    same false false e = refl
    same true false e = absurd (false≢true (sym e))
    same false true e = absurd (false≢true e)

within : ℕ → ℕ → Bool
within a b = is_some (cond (nat_lt a b) (Some a) None)

within-suc : (k a b : ℕ) → k ≡ suc a → within k (suc b) ≡ within a b
unfolding within
within-suc k a b e = ap (λ n. is_some (cond (nat_lt n (suc b)) (Some n) None)) e ∙ below-suc a b

within-zero : (n : ℕ) → within 0 (suc n) ≡ true
unfolding within
within-zero n = let is : nat_lt 0 (suc n) ≡ true = grind (arith, nat_tests) in ap (λ b. is_some {T = ℕ} (cond b (Some 0) None)) is

position-step : {X : Type 0} (p : X → Bool) (x : X) (xs : List X) (b : Bool) → p x ≡ b → within (position_or_len p xs) (length xs) ≡ list_any p xs
    → within (position_or_len p (x ∷ xs)) (suc (length xs)) ≡ (p x || list_any p xs)
unfolding within
position-step p x xs true is h =
    let k : position_or_len p (x ∷ xs) ≡ 0 = rw is refl in
    ap (λ n. within n (suc (length xs))) k ∙ within-zero (length xs) ∙ sym (ap (λ b. b || list_any p xs) is)
position-step p x xs false is h =
    let k : position_or_len p (x ∷ xs) ≡ suc (position_or_len p xs) = rw is (omega arith) in
    within-suc (position_or_len p (x ∷ xs)) (position_or_len p xs) (length xs) k ∙ h ∙ sym (ap (λ b. b || list_any p xs) is)

position-any : {X : Type 0} (p : X → Bool) (xs : List X) → within (position_or_len p xs) (length xs) ≡ list_any p xs
unfolding within
position-any p [] = refl
position-any p (x ∷ xs) = position-step p x xs (p x) refl (position-any p xs)

any-map : {X : Type 0} (v : X → Name) (x : Name) (xs : List X) → list_any (λ f. bytes_eq x (v f)) xs ≡ list_any (bytes_eq x) (map v xs)
any-map v x [] = refl
any-map v x (y ∷ ys) = ap (λ b. bytes_eq x (v y) || b) (any-map v x ys)

pub position_named : {X : Type 0} (v : X → Name) (x : Name) (xs : List X) → is_some (position (λ f. bytes_eq x (v f)) xs) ≡ list_any (bytes_eq x) (map v xs)
unfolding within
position_named v x xs = position-any (λ f. bytes_eq x (v f)) xs ∙ any-map v x xs

pub any-reverse : (p : Name → Bool) (xs : List Name) → list_any p (reverse xs) ≡ list_any p xs
any-reverse p [] = refl
any-reverse p (x ∷ xs) =
    ap (list_any p) (reverse-append (x ∷ []) xs) ∙ list_any-append p (reverse xs) (x ∷ []) ∙ swap (list_any p (reverse xs)) (p x) (list_any p xs) (any-reverse p xs)
  where
    swap : (a b c : Bool) → a ≡ c → (a || (b || false)) ≡ (b || c)
    swap true true c e = refl
    swap true false c e = e
    swap false true c e = refl
    swap false false c e = e

-- ---- fresh names

-- the search, a number at a time
pub free-step : (names : List Name) (front : Name) (room i : ℕ) → i < room →
    free_number names front (room - i) (i + 1) ≡ cond (is_taken names (numbered front (i + 1))) (free_number names front (room - (i + 1)) (i + 1 + 1)) (i + 1)
free-step names front room i lt = let e : room - i ≡ suc (room - (i + 1)) = omega arith in ap (λ more. free_number names front more (i + 1)) e

-- it rests on what is taken and on how many there are
free-alike : (names others : List Name) (front : Name) (room n : ℕ) → ((x : Name) → is_taken names x ≡ is_taken others x) → free_number names front room n ≡ free_number others front room n
free-alike names others front zero n h = refl
free-alike names others front (suc room) n h =
    ap (λ b. cond b (free_number names front room (n + 1)) n) (h (numbered front n)) ∙ ap (λ i. cond (is_taken others (numbered front n)) i n) (free-alike names others front room (n + 1) h)

pub fresh-alike : (names others : List Name) (x : Name) → ((y : Name) → is_taken names y ≡ is_taken others y) → length names ≡ length others → fresh names x ≡ fresh others x
fresh-alike names others x h long =
    ap (λ b. cond b (numbered (stem x) (free_number names (stem x) (length names) 1)) x) (h x)
    ∙ ap (λ n. cond (is_taken others x) (numbered (stem x) n) x) (free-alike names others (stem x) (length names) 1 h ∙ ap (λ room. free_number others (stem x) room 1) long)

-- ---- stems

pub stem-digit : (front : List ℕ) (c : ℕ) → is_ascii_digit c ≡ true → stem (front ++ c ∷ []) ≡ stem front
stem-digit [] c is = rw is refl
stem-digit (d ∷ front) c is = ap (kept d) (stem-digit front c is)

pub stem-other : (front : List ℕ) (c : ℕ) → is_ascii_digit c ≡ false → stem (front ++ c ∷ []) ≡ front ++ c ∷ []
stem-other [] c is = rw is refl
stem-other (d ∷ []) c is = ap (kept d) (stem-other [] c is)
stem-other (d ∷ e ∷ front) c is = ap (kept d) (stem-other (e ∷ front) c is)

-- one byte less
pub stem-shorter : (name : List ℕ) (end : ℕ) (d : ℕ) → 0 < end → end ≤ length name → is_ascii_digit (get_or name (end - 1) d) ≡ true → stem (take end name) ≡ stem (take (end - 1) name)
stem-shorter name end d some le is =
    let e : end ≡ (end - 1) + 1 = omega arith in
    ap (λ n. stem (take n name)) e ∙ ap stem (take_more name (end - 1) d (omega (arith, some, le))) ∙ stem-digit (take (end - 1) name) (get_or name (end - 1) d) is

pub stem-whole : (name : List ℕ) (end : ℕ) (d : ℕ) → 0 < end → end ≤ length name → is_ascii_digit (get_or name (end - 1) d) ≡ false → stem (take end name) ≡ take end name
stem-whole name end d some le is =
    let e : end ≡ (end - 1) + 1 = omega arith in
    let t : take end name ≡ take (end - 1) name ++ get_or name (end - 1) d ∷ [] = ap (λ n. take n name) e ∙ take_more name (end - 1) d (omega (arith, some, le)) in
    ap stem t ∙ stem-other (take (end - 1) name) (get_or name (end - 1) d) is ∙ sym t

-- ---- what is taken

or-moved : (p q r s : Bool) → ((p || (q || r)) || s) ≡ (p || (q || (r || s)))
or-moved true q r s = refl
or-moved false true r s = refl
or-moved false false r s = refl

any-parts : (x : Name) (b l d : List Name) → list_any (bytes_eq x) (reverse b ++ (l ++ d)) ≡ (list_any (bytes_eq x) b || (list_any (bytes_eq x) l || list_any (bytes_eq x) d))
any-parts x b l d =
    list_any-append (bytes_eq x) (reverse b) (l ++ d)
    ∙ ap (λ p. p || list_any (bytes_eq x) (l ++ d)) (any-reverse (bytes_eq x) b)
    ∙ ap (λ p. list_any (bytes_eq x) b || p) (list_any-append (bytes_eq x) l d)

pub taken_by : (x : Name) (b l d : List Name) (p q r : Bool) → p ≡ list_any (bytes_eq x) b → q ≡ list_any (bytes_eq x) l → r ≡ list_any (bytes_eq x) d
    → (p || (q || (r || is_reserved x))) ≡ is_taken (reverse b ++ (l ++ d)) x
taken_by x b l d p q r e f g =
    ap (λ o. o || (q || (r || is_reserved x))) e ∙ ap (λ o. list_any (bytes_eq x) b || (o || (r || is_reserved x))) f
    ∙ ap (λ o. list_any (bytes_eq x) b || (list_any (bytes_eq x) l || (o || is_reserved x))) g
    ∙ sym (ap (λ o. o || is_reserved x) (any-parts x b l d) ∙ or-moved (list_any (bytes_eq x) b) (list_any (bytes_eq x) l) (list_any (bytes_eq x) d) (is_reserved x))

-- a test of one kind of names after the other
pub taken_parts : (x : Name) (b l d : List Name)
    → is_taken (reverse b ++ (l ++ d)) x ≡ (list_any (bytes_eq x) b || (list_any (bytes_eq x) l || (list_any (bytes_eq x) d || is_reserved x)))
taken_parts x b l d = sym (taken_by x b l d _ _ _ refl refl refl)

pub any-declared : {X Y : Type 0} (v : X → Name) (w : Y → Name) (x : Name) (fs : List X) (ps : List Y) (p q : Bool)
    → p ≡ is_some (position (λ f. bytes_eq x (v f)) fs) → q ≡ is_some (position (λ f. bytes_eq x (w f)) ps) → (p || q) ≡ list_any (bytes_eq x) (map v fs ++ map w ps)
any-declared v w x fs ps p q e f =
    ap (λ o. o || q) (e ∙ position_named v x fs) ∙ ap (λ o. list_any (bytes_eq x) (map v fs) || o) (f ∙ position_named w x ps) ∙ sym (list_any-append (bytes_eq x) (map v fs) (map w ps))

-- names in another order, and no variables
pub fresh-turned : (names declared : List Name) (x : Name) → fresh (reverse names ++ ([] ++ declared)) x ≡ fresh (names ++ declared) x
fresh-turned names declared x =
    fresh-alike (reverse names ++ declared) (names ++ declared) x
    (λ y. ap (λ o. o || is_reserved y) (list_any-append (bytes_eq y) (reverse names) declared ∙ ap (λ o. o || list_any (bytes_eq y) declared) (any-reverse (bytes_eq y) names) ∙ sym (list_any-append (bytes_eq y) names declared)))
    (length-append (reverse names) declared ∙ ap (λ n. n + length declared) (length-reverse names) ∙ sym (length-append names declared))

-- ---- no name is empty

pub decimal-some : (front : Name) (n : ℕ) → n < 2 ^ 64 → numbered front n ≡ [] → ⊥
decimal-some front n lt e = absurd (omega (arith, length-append front (decimal n), ap length e, decimal_nonempty n lt))

pub free-end : (names : List Name) (front : Name) (room i : ℕ) → i ≡ room → free_number names front (room - i) (i + 1) ≡ room + 1
free-end names front room i e = let none : room - i ≡ 0 = omega arith in ap (λ more. free_number names front more (i + 1)) none ∙ ap (λ k. k + 1) e

pub free-here : (names : List Name) (front : Name) (room i : ℕ) → i < room → is_taken names (numbered front (i + 1)) ≡ false → free_number names front (room - i) (i + 1) ≡ i + 1
free-here names front room i lt is = free-step names front room i lt ∙ ap (λ b. cond b (free_number names front (room - (i + 1)) (i + 1 + 1)) (i + 1)) is

pub free-next : (names : List Name) (front : Name) (room i : ℕ) → i < room → is_taken names (numbered front (i + 1)) ≡ true → free_number names front (room - i) (i + 1) ≡ free_number names front (room - (i + 1)) (i + 1 + 1)
free-next names front room i lt is = free-step names front room i lt ∙ ap (λ b. cond b (free_number names front (room - (i + 1)) (i + 1 + 1)) (i + 1)) is
