-- What it means that no further world can be placed.
use Rattle.std.proofs.Common.{replicate, ◌≡◌, ℕ, ◌+◌, ◌<◌, Bool, true, false, not, cond, ◌&&◌, ◌||◌, eqb, List, [], ◌∷◌, ◌++◌, length, set, take, refl, sym, ap, ◌∙◌, subst, inl, inr, arith, zero, suc, Some}
use Rattle.std.specs.Prelude.{find, slice_index, IsSome}
use Rattle.std.specs.List.{list_all}
use Rattle.std.proofs.lemmas.Bool.{cases_lt, cases_Bool, eqb-true, eq-eqb, false≢true, and_parts, and_from, or_cases, not-true, not_from_false}
use Rattle.std.proofs.lemmas.List.{get_or_append_left, get_or_push, take-append-le, take_at, get_or-take, length-take-le, length_push}
use Rattle.std.proofs.lemmas.List.Folds.{list_any-append, list_any_at}
use Rattle.pg_worlds.specs.Flags.{flag, has}
use Rattle.pg_worlds.specs.Worlds.{Worlds, needs_of, world_count, can_be_placed, IsFirstBelow, IsFirstEachTime, IsBehindNeeds, CanBePlaced, HasNoOrder}
use Rattle.pg_worlds.proofs.Flagged.{flag-set}

-- a number that a list has placed at some place of it
pub has_place : (xs : List ℕ) (k : ℕ) → has xs k ≡ true → (j : ℕ) × (j < length xs) × (slice_index xs j ≡ k)
has_place [] k e = absurd (false≢true e)
has_place (x ∷ xs) k e =
    elim (or_cases (eqb x k) (has xs k) e) [
      | inl here ↦ (0, omega arith, eqb-true x k here)
      | inr later ↦ let r = has_place xs k later in (suc r.0, omega arith, r.2)
    ]

pub has_at : (xs : List ℕ) (j k : ℕ) → j < length xs → slice_index xs j ≡ k → has xs k ≡ true
has_at xs j k h e = list_any_at (λ x. eqb x k) xs j 0 h (eq-eqb _ _ e)

pub list_all-weaker : {X : Type 0} (p q : X → Bool) → ((x : X) → p x ≡ true → q x ≡ true) → (xs : List X) → list_all p xs ≡ true → list_all q xs ≡ true
list_all-weaker p q w [] e = refl
list_all-weaker p q w (x ∷ xs) e = let r = and_parts (p x) (list_all p xs) e in and_from _ _ (w x r.0) (list_all-weaker p q w xs r.1)

-- how many flags are down
abbrev pub down : List Bool → ℕ
down [] = 0
down (b ∷ bs) = cond b (down bs) (down bs + 1)

-- a flag set where it was down leaves fewer that are down
pub fewer_down : (flags : List Bool) (i : ℕ) → i < length flags → flag flags i ≡ false → down (set flags i true) < down flags
fewer_down [] i h e = absurd (omega arith)
fewer_down (b ∷ bs) zero h e = subst (λ v. down bs < cond v (down bs) (down bs + 1)) (sym e) (omega arith)
fewer_down (true ∷ bs) (suc i) h e = fewer_down bs i (omega arith) e
fewer_down (false ∷ bs) (suc i) h e = let r = fewer_down bs i (omega arith) e in omega arith

-- ---- the order grows

pub same_test : (s t : ℕ → Bool) → ((k : ℕ) → s k ≡ t k) → s ≡ t
same_test s t h = λ i k. h k i

pub first_each_push : (g : Worlds) (order : List ℕ) (w : ℕ) → IsFirstEachTime g order → IsFirstBelow (world_count g) (can_be_placed g (has order)) w → IsFirstEachTime g (order ++ w ∷ [])
first_each_push g order w old new i h =
    let P : List ℕ → ℕ → Type 0 = λ before v. IsFirstBelow (world_count g) (can_be_placed g (has before)) v in
    elim (cases_lt i (length order)) [
      | inl l ↦ subst (λ before. P before (slice_index (order ++ w ∷ []) i)) (sym (take-append-le i order (w ∷ []) (omega arith))) (subst (P (take i order)) (sym (get_or_append_left order (w ∷ []) 0 i l)) (old i l))
      | inr l ↦
          let here : length order ≡ i = omega (arith, length_push order w) in
          subst (λ before. P before (slice_index (order ++ w ∷ []) i)) (sym (take_at order (w ∷ []) i here)) (subst (P order) (sym (get_or_push order w 0 i here)) new)
    ]

pub flags_push : (flags : List Bool) (order : List ℕ) (w : ℕ) → w < length flags → ((k : ℕ) → flag flags k ≡ has order k) → (k : ℕ) → flag (set flags w true) k ≡ has (order ++ w ∷ []) k
flags_push flags order w h same k =
    flag-set flags w k true h ∙ ap (λ b. cond (eqb w k) true b) (same k) ∙ either (eqb w k) (has order k) ∙ sym (list_any-append (λ x. eqb x k) order (w ∷ []))
  where
    either : (a b : Bool) → cond a true b ≡ (b || (a || false))
    either true true = refl
    either true false = refl
    either false true = refl
    either false false = refl

-- ---- an order has each world behind its needs

pub behind_needs : (g : Worlds) (order : List ℕ) → IsFirstEachTime g order → IsBehindNeeds g order
behind_needs g order first i h =
    let f = first i h in (f.0, (and_parts (not (has (take i order) (slice_index order i))) (list_all (has (take i order)) (needs_of g (slice_index order i))) f.1).1)

-- ---- where no further world can be placed, just those that are placed can be

module _ (g : Worlds) (placed : ℕ → Bool) (stuck : (w : ℕ) → w < world_count g → can_be_placed g placed w ≡ false) where
  among : (ws : List ℕ) → IsBehindNeeds g ws → (m i : ℕ) → i < m → i < length ws → placed (slice_index ws i) ≡ true
  among ws behind zero i l h = absurd (omega arith)
  among ws behind (suc m) i l h =
      let w : ℕ = slice_index ws i in
      let earlier : (v : ℕ) → has (take i ws) v ≡ true → placed v ≡ true =
      λ v e.
      let r = has_place (take i ws) v e in
      let j_below : r.0 < i = omega (arith, length-take-le i ws (omega arith)) in
      subst (λ u. placed u ≡ true) (sym (get_or-take i ws r.0 0 j_below) ∙ r.2) (among ws behind m r.0 (omega arith) (omega arith))
      in
      elim (cases_Bool (placed w)) [
        | inl e ↦ e
        | inr e ↦ absurd (false≢true (sym (stuck w (behind i h).0) ∙ and_from (not (placed w)) _ (not_from_false (placed w) e) (list_all-weaker _ placed earlier (needs_of g w) (behind i h).1)))
      ]

  pub placed_from_can : (w : ℕ) → CanBePlaced g w → placed w ≡ true
  placed_from_can w can =
      let r = has_place can.0 w can.2 in subst (λ u. placed u ≡ true) r.2 (among can.0 can.1 (suc r.0) r.0 (omega arith) r.1)

  pub no_order : (w : ℕ) → w < world_count g → placed w ≡ false → HasNoOrder g
  no_order w h down ws behind every = false≢true (sym down ∙ placed_from_can w (ws, behind, every w h))

-- a world that isn't placed and can't be has a first need that isn't placed
pub some_need_left : (placed : ℕ → Bool) (needs : List ℕ) → list_all placed needs ≡ false → IsSome (find (λ v. not (placed v)) needs)
some_need_left placed [] e = absurd (false≢true (sym e))
some_need_left placed (v ∷ vs) e =
    elim (placed v) as (λ b. (b && list_all placed vs) ≡ false → IsSome (cond (not b) (Some v) (find (λ u. not (placed u)) vs))) [
      | true ↦ λ later. some_need_left placed vs later
      | false ↦ λ _. refl
    ] e

pub all_false : (placed : ℕ → Bool) (g : Worlds) (w : ℕ) → placed w ≡ false → can_be_placed g placed w ≡ false → list_all placed (needs_of g w) ≡ false
all_false placed g w down stuck = ap (λ b. not b && list_all placed (needs_of g w)) (sym down) ∙ stuck

-- what is found passes and is in the list
pub find_gives : (test : ℕ → Bool) (xs : List ℕ) (x : ℕ) → find test xs ≡ Some x → (test x ≡ true) × (has xs x ≡ true)
find_gives test [] x e = cc
find_gives test (y ∷ ys) x e =
    elim (test y) as (λ b. test y ≡ b → cond b (Some y) (find test ys) ≡ Some x → (test x ≡ true) × ((eqb y x || has ys x) ≡ true)) [
      | true ↦ λ passes found. let same : y ≡ x = cc in (ap test (sym same) ∙ passes, ap (λ b. b || has ys x) (eq-eqb y x same))
      | false ↦ λ _ found. let r = find_gives test ys x found in (r.0, later (eqb y x) (has ys x) r.1)
    ] refl e
  where
    later : (a b : Bool) → b ≡ true → (a || b) ≡ true
    later true b e = refl
    later false b e = e

-- one more world placed: the first that could
pub grown : (g : Worlds) (placed : List Bool) (order : List ℕ) (w : ℕ) → w < length placed → IsFirstEachTime g order × ((k : ℕ) → flag placed k ≡ has order k)
    → IsFirstBelow (world_count g) (can_be_placed g (flag placed)) w
    → IsFirstEachTime g (order ++ w ∷ []) × ((k : ℕ) → flag (set placed w true) k ≡ has (order ++ w ∷ []) k)
grown g placed order w h so_far first =
    (first_each_push g order w so_far.0 (subst (λ s. IsFirstBelow (world_count g) (can_be_placed g s) w) (same_test (flag placed) (has order) so_far.1) first), flags_push placed order w h so_far.1)

pub was_left : (g : Worlds) (placed : ℕ → Bool) (w : ℕ) → can_be_placed g placed w ≡ true → placed w ≡ false
was_left g placed w e = not-true (placed w) (and_parts (not (placed w)) (list_all placed (needs_of g w)) e).0

pub all_down : (n k : ℕ) → flag (replicate n false) k ≡ false
all_down zero k = refl
all_down (suc n) zero = refl
all_down (suc n) (suc k) = all_down n k
