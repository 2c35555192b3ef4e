-- A fresh name is free, and its number the least: of more numbers than there are names one is free.
use Rattle.std.proofs.Common.{◌≡◌, ℕ, zero, suc, ◌+◌, ◌%◌, ◌^◌, ◌<◌, ◌≤◌, ◌==◌, Bool, true, false, cond, ◌||◌, ◌&&◌, not, List, [], ◌∷◌, ◌++◌, length, codes, sym, ◌∙◌, ap, refl, subst, arith, decimal}
use Rattle.std.specs.Char.{is_ascii_digit}
use Rattle.std.specs.List.{list_any}
use Rattle.std.specs.Str.{bytes_eq}
use Rattle.std.proofs.lemmas.Bool.{or_parts, false≢true}
use Rattle.std.proofs.lemmas.Bool.Decides.{nat_tests}
use Rattle.std.proofs.lemmas.Slice.Eq.{bytes_eq-Decides}
use Rattle.std.proofs.lemmas.List.{append_cancel_left}
use Rattle.std.proofs.lemmas.Fmt.{decimal_by_steps, decimal_injective}
use Rattle.pg_logic.specs.Declarations.{Name}
use Rattle.pg_base.specs.Reserved.{is_one_of, is_reserved}
use Rattle.pg_spelling.specs.Fresh.{is_taken, stem, numbered, free_number, IsFresh}
use Rattle.pg_spelling.specs.Laws.{FreshLaw}

pub or_from : (x y : Bool) → x ≡ false → y ≡ false → (x || y) ≡ false
or_from false y e f = f
or_from true y e f = absurd (false≢true (sym e))

or_true : (x y : Bool) → (x || y) ≡ true → y ≡ false → x ≡ true
or_true true y h e = refl
or_true false y h e = absurd (false≢true (sym e ∙ h))

-- by the answer of a test
pub by_bool : (P : Bool → Type 0) (b : Bool) → (b ≡ true → P true) → (b ≡ false → P false) → P b
by_bool P true f g = f refl
by_bool P false f g = g refl

-- ---- no reserved word ends in a digit

abbrev pub ends_in_digit : List ℕ → Bool
ends_in_digit [] = false
ends_in_digit (c ∷ []) = is_ascii_digit c
ends_in_digit (c ∷ d ∷ cs) = ends_in_digit (d ∷ cs)

pub ends-append : (front ds : List ℕ) → ends_in_digit ds ≡ true → ends_in_digit (front ++ ds) ≡ true
ends-append [] ds h = h
ends-append (c ∷ []) [] h = absurd (false≢true h)
ends-append (c ∷ []) (d ∷ ds) h = h
ends-append (c ∷ e ∷ front) ds h = ends-append (e ∷ front) ds h

pub digit-below : (n : ℕ) → n < 10 → is_ascii_digit (48 + n) ≡ true
digit-below n lt = grind (arith, nat_tests)

pub decimal-ends : (n : ℕ) → n < 2 ^ 64 → ends_in_digit (decimal n) ≡ true
decimal-ends =
    decimal_by_steps (λ n ds. ends_in_digit ds ≡ true) (λ n lt. digit-below n lt)
    (λ n ds le h. ends-append ds ((48 + n % 10) ∷ []) (digit-below (n % 10) (omega arith)))

abbrev none_ends : List (List ℕ) → Bool
none_ends [] = true
none_ends (w ∷ ws) = not (ends_in_digit w) && none_ends ws

none_parts : (a b : Bool) → (not a && b) ≡ true → (a ≡ false) × (b ≡ true)
none_parts true b h = absurd (false≢true h)
none_parts false b h = (refl, h)

not_one_of : (ws : List (List ℕ)) (text : List ℕ) → none_ends ws ≡ true → ends_in_digit text ≡ true → is_one_of ws text ≡ false
not_one_of [] text h e = refl
not_one_of (w ∷ ws) text h e =
    let plain = none_parts (ends_in_digit w) (none_ends ws) h in
    or_from _ _
    (by_bool (λ b. bytes_eq text w ≡ b → bytes_eq text w ≡ false) (bytes_eq text w)
    (λ _ is. absurd (false≢true (sym plain.0 ∙ ap ends_in_digit (sym ((bytes_eq-Decides text w).0 is)) ∙ e))) (λ _ is. is) refl)
    (not_one_of ws text plain.1 e)

pub not_reserved : (text : List ℕ) → ends_in_digit text ≡ true → is_reserved text ≡ false
not_reserved text e =
    or_from _ _
    (or_from _ _
    (or_from _ _ (not_one_of (codes "succ" ∷ codes "by" ∷ codes "with" ∷ codes "at" ∷ codes "as" ∷ codes "in" ∷ codes "sorry" ∷ codes "True" ∷ codes "False" ∷ codes "_" ∷ []) text refl e) (not_one_of (codes "Game" ∷ codes "World" ∷ codes "Level" ∷ codes "Dependency" ∷ codes "Function" ∷ codes "Constant" ∷ codes "Predicate" ∷ []) text refl e))
    (not_one_of (codes "Title" ∷ codes "Introduction" ∷ codes "Conclusion" ∷ codes "Statement" ∷ codes "NewTactic" ∷ codes "DisabledTactic" ∷ codes "OnlyTactic" ∷ codes "NewTheorem" ∷ codes "DisabledTheorem" ∷ codes "OnlyTheorem" ∷ []) text refl e))
    (not_one_of (codes "TacticDoc" ∷ codes "TheoremDoc" ∷ codes "DefinitionDoc" ∷ codes "NewDefinition" ∷ codes "TheoremTab" ∷ codes "CaptionShort" ∷ codes "CaptionLong" ∷ codes "Info" ∷ codes "Languages" ∷ codes "Prerequisites" ∷ codes "CoverImage" ∷ codes "MakeGame" ∷ []) text refl e)

pub numbered-plain : (front : Name) (n : ℕ) → n < 2 ^ 64 → is_reserved (numbered front n) ≡ false
numbered-plain front n lt = not_reserved (numbered front n) (ends-append front (decimal n) (decimal-ends n lt))

-- ---- lists without a name

without : Name → List Name → List Name
without x [] = []
without x (y ∷ ys) = cond (bytes_eq x y) (without x ys) (y ∷ without x ys)

without-length : (x : Name) (ys : List Name) → length (without x ys) ≤ length ys
unfolding without
without-length x [] = omega arith
without-length x (y ∷ ys) =
    let le = without-length x ys in
    by_bool (λ b. length (cond b (without x ys) (y ∷ without x ys)) ≤ suc (length ys)) (bytes_eq x y) (λ _. omega (arith, le)) (λ _. omega (arith, le))

without-fewer : (x : Name) (ys : List Name) → list_any (bytes_eq x) ys ≡ true → length (without x ys) < length ys
unfolding without
without-fewer x [] h = absurd (false≢true h)
without-fewer x (y ∷ ys) h =
    by_bool (λ b. bytes_eq x y ≡ b → length (cond b (without x ys) (y ∷ without x ys)) < suc (length ys)) (bytes_eq x y)
    (λ _ is. let le = without-length x ys in omega (arith, le))
    (λ _ is. let lt = without-fewer x ys (sym (ap (λ b. b || list_any (bytes_eq x) ys) is) ∙ h) in omega (arith, lt))
    refl

differ : (x y z : Name) → (z ≡ x → ⊥) → x ≡ y → bytes_eq z y ≡ false
differ x y z apart same =
    by_bool (λ b. bytes_eq z y ≡ b → b ≡ false) (bytes_eq z y) (λ _ e. absurd (apart ((bytes_eq-Decides z y).0 e ∙ sym same))) (λ _ e. refl) refl

without-same : (x z : Name) (ys : List Name) → (z ≡ x → ⊥) → list_any (bytes_eq z) (without x ys) ≡ list_any (bytes_eq z) ys
unfolding without
without-same x z [] apart = refl
without-same x z (y ∷ ys) apart =
    by_bool (λ b. bytes_eq x y ≡ b → list_any (bytes_eq z) (cond b (without x ys) (y ∷ without x ys)) ≡ (bytes_eq z y || list_any (bytes_eq z) ys)) (bytes_eq x y)
    (λ _ is. without-same x z ys apart ∙ sym (ap (λ b. b || list_any (bytes_eq z) ys) (differ x y z apart ((bytes_eq-Decides x y).0 is))))
    (λ _ is. ap (λ b. bytes_eq z y || b) (without-same x z ys apart))
    refl

-- ---- the search

pub free-bounds : (names : List Name) (front : Name) (room n : ℕ) → (n ≤ free_number names front room n) × (free_number names front room n ≤ n + room)
free-bounds names front zero n = (omega arith, omega arith)
free-bounds names front (suc room) n = by_test _ refl (free-bounds names front room (n + 1))
  where
    by_test : (b : Bool) → is_taken names (numbered front n) ≡ b → (n + 1 ≤ free_number names front room (n + 1)) × (free_number names front room (n + 1) ≤ n + 1 + room)
        → (n ≤ cond (is_taken names (numbered front n)) (free_number names front room (n + 1)) n) × (cond (is_taken names (numbered front n)) (free_number names front room (n + 1)) n ≤ n + suc room)
    by_test true is h = rw is (omega (arith, h.0), omega (arith, h.1))
    by_test false is h = rw is (omega arith, omega arith)

eqb_eq : (n k : ℕ) → (n == k) ≡ true → n ≡ k
eqb_eq n k e = grind (arith, nat_tests, e)

eqb_above : (n k : ℕ) → n ≤ k → (n == k) ≡ false → n + 1 ≤ k
eqb_above n k le e = grind (arith, nat_tests, e, le)

free-least : (names : List Name) (front : Name) (room n k : ℕ) → n ≤ k → k < free_number names front room n → is_taken names (numbered front k) ≡ true
free-least names front zero n k le lt = absurd (omega (arith, le, lt))
free-least names front (suc room) n k le lt =
    by_bool (λ b. is_taken names (numbered front n) ≡ b → k < cond b (free_number names front room (n + 1)) n → is_taken names (numbered front k) ≡ true) (is_taken names (numbered front n))
    (λ _ is less.
    by_bool (λ b. (n == k) ≡ b → is_taken names (numbered front k) ≡ true) (n == k)
    (λ _ e. let same : n ≡ k = eqb_eq n k e in ap (λ i. is_taken names (numbered front i)) (sym same) ∙ is)
    (λ _ e. free-least names front room (n + 1) k (eqb_above n k le e) less)
    refl)
    (λ _ is less. absurd (omega (arith, le, less)))
    refl lt

free-same : (names others : List Name) (front : Name) (room n : ℕ) → ((k : ℕ) → n ≤ k → k < n + room → is_taken names (numbered front k) ≡ is_taken others (numbered front k))
    → free_number names front room n ≡ free_number others front room n
free-same names others front zero n h = refl
free-same names others front (suc room) n h =
    ap (λ b. cond b (free_number names front room (n + 1)) n) (h n (omega arith) (omega arith))
    ∙ ap (λ i. cond (is_taken others (numbered front n)) i n) (free-same names others front room (n + 1) (λ k le lt. h k (omega (arith, le)) (omega (arith, lt))))

numbered-apart : (front : Name) (a b : ℕ) → a < 2 ^ 64 → b < 2 ^ 64 → a < b → numbered front b ≡ numbered front a → ⊥
numbered-apart front a b la lb lt e =
    let same : b ≡ a = decimal_injective b a lb la (append_cancel_left front (decimal b) (decimal a) e) in
    omega (arith, same, lt)

free-free : (room : ℕ) (names : List Name) (front : Name) (n : ℕ) → length names ≤ room → n + room < 2 ^ 64
    → list_any (bytes_eq (numbered front (free_number names front room n))) names ≡ false
free-free zero [] front n le lt = refl
free-free zero (x ∷ xs) front n le lt = absurd (omega (arith, le))
free-free (suc room) names front n le lt =
    by_bool (λ b. is_taken names (numbered front n) ≡ b → list_any (bytes_eq (numbered front (cond b (free_number names front room (n + 1)) n))) names ≡ false) (is_taken names (numbered front n))
    (λ _ is.
    let x : Name = numbered front n in
    let small : n < 2 ^ 64 = omega (arith, lt) in
    let there : list_any (bytes_eq x) names ≡ true = or_true _ _ is (numbered-plain front n small) in
    let fewer : length (without x names) ≤ room = omega (arith, without-fewer x names there, le) in
    let apart : (k : ℕ) → n + 1 ≤ k → k < 2 ^ 64 → numbered front k ≡ x → ⊥ = λ k a b. numbered-apart front n k small b (omega (arith, a)) in
    let same : free_number (without x names) front room (n + 1) ≡ free_number names front room (n + 1) =
    free-same (without x names) names front room (n + 1)
    (λ k a b. ap (λ y. y || is_reserved (numbered front k)) (without-same x (numbered front k) names (apart k a (omega (arith, b, lt))))) in
    let bounds = free-bounds names front room (n + 1) in
    let next = free-free room (without x names) front (n + 1) fewer (omega (arith, lt)) in
    sym (without-same x (numbered front (free_number names front room (n + 1))) names (apart (free_number names front room (n + 1)) bounds.0 (omega (arith, bounds.1, lt))))
    ∙ subst (λ i. list_any (bytes_eq (numbered front i)) (without x names) ≡ false) same next)
    (λ _ is. (or_parts _ _ is).0)
    refl

pub fresh-law : FreshLaw
fresh-law names name room =
    by_bool (λ b. is_taken names name ≡ b → IsFresh names name (cond b (numbered (stem name) (free_number names (stem name) (length names) 1)) name)) (is_taken names name)
    (λ _ is.
    let number : ℕ = free_number names (stem name) (length names) 1 in
    let bounds = free-bounds names (stem name) (length names) 1 in
    record {
      free = or_from _ _ (free-free (length names) names (stem name) 1 (omega arith) (omega (arith, room))) (numbered-plain (stem name) number (omega (arith, bounds.1, room)));
      stays = λ h. absurd (false≢true (sym h ∙ is));
      numbered = λ h. record { number = number; is = refl; some = bounds.0; least = λ k a b. free-least names (stem name) (length names) 1 k a b };
    })
    (λ _ is. record { free = is; stays = λ h. refl; numbered = λ h. absurd (false≢true (sym is ∙ h)) })
    refl
