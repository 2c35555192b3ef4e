-- Which worlds a world needs, found by one pass over an order from its end.
use Rattle.std.proofs.Common.{◌≡◌, ℕ, ◌+◌, ◌<◌, ◌≤◌, Bool, true, false, not, ◌||◌, eqb, List, [], ◌∷◌, length, take, sym, ap, ◌∙◌, inl, inr, arith}
use Rattle.std.specs.Prelude.{◌↔◌, slice_index, IsTrue}
use Rattle.std.specs.List.{list_all}
use Rattle.std.proofs.lemmas.Bool.{cases_eq, eqb-true, false≢true, and_parts, or_cases, or_left, or_right, not-true}
use Rattle.std.proofs.lemmas.List.{get_or-take, length-take-le}
use Rattle.pg_worlds.specs.Flags.{has}
use Rattle.pg_worlds.specs.Worlds.{Worlds, needs_of, world_count, IsGraph, IsWorldOrder}
use Rattle.pg_worlds.specs.Course.{Needs}
use Rattle.pg_worlds.proofs.Placing.{has_place, has_at, behind_needs}

-- a test that each of a list passes is passed by one of them
pub all_has : (xs : List ℕ) (test : ℕ → Bool) → list_all test xs ≡ true → (x : ℕ) → has xs x ≡ true → test x ≡ true
all_has [] test all x e = absurd (false≢true e)
all_has (y ∷ ys) test all x e =
    let r = and_parts (test y) (list_all test ys) all in
    elim (or_cases (eqb y x) (has ys x) e) [ inl same ↦ ap test (sym (eqb-true y x same)) ∙ r.0 | inr later ↦ all_has ys test r.1 x later ]

-- in an order, what a world needs stands before it, so it is no world from there on
pub apart : (g : Worlds) (order : List ℕ) → IsWorldOrder g order → (i j : ℕ) → i ≤ j → j < length order → has (needs_of g (slice_index order i)) (slice_index order j) ≡ true → ⊥
apart g order ordered i j l h e =
    let behind = (behind_needs g order ordered.first_each_time i (omega arith)).1 in
    let r = has_place (take i order) (slice_index order j) (all_has (needs_of g (slice_index order i)) (has (take i order)) behind (slice_index order j) e) in
    let place : r.0 < i = omega (arith, length-take-le i order (omega arith)) in
    let in_front : has (take j order) (slice_index order j) ≡ true =
    has_at (take j order) r.0 (slice_index order j) (omega (arith, length-take-le j order (omega arith))) (get_or-take j order r.0 0 (omega arith) ∙ sym (get_or-take i order r.0 0 place) ∙ r.2)
    in
    let new = not-true _ (and_parts (not (has (take j order) (slice_index order j))) (list_all (has (take j order)) (needs_of g (slice_index order j))) (ordered.first_each_time j h).1).0 in
    false≢true (sym new ∙ in_front)

-- the worlds from place `at` on have been looked at, and the needs of those that are needed are marked
pub record IsSpread (g : Worlds) (order : List ℕ) (world at : ℕ) (needed : ℕ → Bool) : Type 0 where
  pub sound : (k : ℕ) → needed k ≡ true → Needs g world k
  pub base : (k : ℕ) → has (needs_of g world) k ≡ true → needed k ≡ true
  pub closed : (j : ℕ) → at ≤ j → j < length order → needed (slice_index order j) ≡ true → (k : ℕ) → has (needs_of g (slice_index order j)) k ≡ true → needed k ≡ true

pub spread_none : (g : Worlds) (order : List ℕ) (world at : ℕ) (old needed : ℕ → Bool) → length order ≤ at → ((k : ℕ) → old k ≡ false) → ((k : ℕ) → needed k ≡ (old k || has (needs_of g world) k)) → IsSpread g order world at needed
spread_none g order world at old needed end none same =
    let is : (k : ℕ) → needed k ≡ has (needs_of g world) k = λ k. same k ∙ ap (λ b. b || has (needs_of g world) k) (none k) in
    record {
      sound = λ k e. Needs.directly k (sym (is k) ∙ e);
      base = λ k e. is k ∙ e;
      closed = λ j l h e k e2. absurd (omega arith);
    }

pub spread_skip : (g : Worlds) (order : List ℕ) (world at next : ℕ) (needed : ℕ → Bool) → next ≡ at + 1 → needed (slice_index order at) ≡ false → IsSpread g order world next needed → IsSpread g order world at needed
spread_skip g order world at next needed one skip so_far =
    record {
      sound = so_far.sound;
      base = so_far.base;
      closed = λ j l h e k e2. elim (cases_eq at j) [
        | inl same ↦ absurd (false≢true (sym skip ∙ ap (λ i. needed (slice_index order i)) same ∙ e))
        | inr other ↦ so_far.closed j (omega arith) h e k e2
      ];
    }

pub spread_more : (g : Worlds) (order : List ℕ) (world at next : ℕ) (old needed : ℕ → Bool) → next ≡ at + 1 → IsWorldOrder g order → at < length order → old (slice_index order at) ≡ true
    → ((k : ℕ) → needed k ≡ (old k || has (needs_of g (slice_index order at)) k)) → IsSpread g order world next old → IsSpread g order world at needed
spread_more g order world at next old needed one ordered h here same so_far =
    let more : (k : ℕ) → old k ≡ true → needed k ≡ true = λ k e. same k ∙ or_left (old k) (has (needs_of g (slice_index order at)) k) e in
    record {
      sound = λ k e. elim (or_cases (old k) (has (needs_of g (slice_index order at)) k) (sym (same k) ∙ e)) [
        | inl before ↦ so_far.sound k before
        | inr new ↦ Needs.through (slice_index order at) k (so_far.sound (slice_index order at) here) new
      ];
      base = λ k e. more k (so_far.base k e);
      closed = λ j l lt e k e2. elim (cases_eq at j) [
        | inl equal ↦ same k ∙ or_right (old k) _ (ap (λ i. has (needs_of g (slice_index order i)) k) equal ∙ e2)
        | inr other ↦ elim (or_cases (old (slice_index order j)) (has (needs_of g (slice_index order at)) (slice_index order j)) (sym (same (slice_index order j)) ∙ e)) [
          | inl before ↦ more k (so_far.closed j (omega arith) lt before k e2)
          | inr new ↦ absurd (apart g order ordered at j l lt new)
        ]
      ];
    }

-- what is needed is a world
pub in_range : (g : Worlds) → IsGraph g → (a b : ℕ) → Needs g a b → b < world_count g
in_range g graph a b (Needs.directly _ e) = graph.in_range a b e
in_range g graph a b (Needs.through c _ n e) = graph.in_range c b e

-- after the whole pass just the needed worlds are marked
pub spread_all : (g : Worlds) (order : List ℕ) (world : ℕ) (needed : ℕ → Bool) → IsGraph g → IsWorldOrder g order → IsSpread g order world 0 needed → (k : ℕ) → IsTrue (needed k) ↔ Needs g world k
spread_all g order world needed graph ordered spread k = (spread.sound k, marked k)
  where
    marked : (b : ℕ) → Needs g world b → needed b ≡ true
    marked b (Needs.directly _ e) = spread.base b e
    marked b (Needs.through c _ n e) =
        let r = has_place order c (ordered.every_world c (in_range g graph world c n)) in
        spread.closed r.0 (omega arith) r.1 (ap needed r.2 ∙ marked c n) b (ap (λ w. has (needs_of g w) b) r.2 ∙ e)
