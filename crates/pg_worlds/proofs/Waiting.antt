-- Which worlds wait, found by one pass over an order, and which levels are open.
use Rattle.std.proofs.Common.{◌≡◌, ℕ, ◌+◌, ◌<◌, Bool, true, false, not, ◌||◌, eqb, cond, List, [], ◌∷◌, ◌++◌, length, set, refl, sym, ap, ◌∙◌, subst, inl, inr, arith}
use Rattle.std.specs.Prelude.{◌↔◌, ◌⊎◌, slice_index, IsTrue}
use Rattle.std.specs.List.{list_any}
use Rattle.std.proofs.lemmas.Bool.{cases_Bool, cases_eq, cases_lt, eq-eqb, ne_eqb, false≢true, or_cases, or_left, or_right}
use Rattle.std.proofs.lemmas.List.{get_or_past, get_or_append_left, get_or_push}
use Rattle.std.proofs.lemmas.List.Folds.{list_any_at}
use Rattle.pg_worlds.specs.Flags.{has, flag}
use Rattle.pg_worlds.specs.Worlds.{Worlds, needs_of, world_count, IsGraph, IsWorldOrder}
use Rattle.pg_worlds.specs.Course.{Plan, Needs, IsBefore, IsOpen, HasUnwon, IsWaiting, world_of}
use Rattle.pg_worlds.proofs.Placing.{has_place}
use Rattle.pg_worlds.proofs.Flagged.{flag-set}
use Rattle.pg_worlds.proofs.Reached.{apart, in_range}

-- ---- tests over a list

-- a test that some of a list passes is passed by one of them
pub any_gives : (xs : List ℕ) (test : ℕ → Bool) → list_any test xs ≡ true → (x : ℕ) × (has xs x ≡ true) × (test x ≡ true)
any_gives [] test e = absurd (false≢true e)
any_gives (y ∷ ys) test e =
    elim (or_cases (test y) (list_any test ys) e) [
      | inl here ↦ (y, or_left (eqb y y) (has ys y) (eq-eqb y y refl), here)
      | inr later ↦ let r = any_gives ys test later in (r.0, or_right (eqb y r.0) (has ys r.0) r.1, r.2)
    ]

-- what one of a list passes some of it passes
pub any_has : (xs : List ℕ) (test : ℕ → Bool) (x : ℕ) → has xs x ≡ true → test x ≡ true → list_any test xs ≡ true
any_has xs test x e here = let r = has_place xs x e in list_any_at test xs r.0 0 r.1 (ap test r.2 ∙ here)

-- ---- worlds that wait

-- what a needed world needs is needed
pub needs_on : (g : Worlds) (a b c : ℕ) → Needs g a b → Needs g b c → Needs g a c
needs_on g a b c first (Needs.directly _ e) = Needs.through b c first e
needs_on g a b c first (Needs.through d _ n e) = Needs.through d c (needs_on g a b d first n) e

-- a world needs one whose flag stands
abbrev pub NeedsOne : Worlds → (ℕ → Bool) → ℕ → Type 0
NeedsOne g unwon w = (b : ℕ) × Needs g w b × (unwon b ≡ true)

-- the worlds before place `at` have been looked at, and those that need one that is unwon are marked
pub record IsSeen (g : Worlds) (order : List ℕ) (unwon : ℕ → Bool) (at : ℕ) (waiting : ℕ → Bool) : Type 0 where
  pub sound : (w : ℕ) → waiting w ≡ true → NeedsOne g unwon w
  pub closed : (j : ℕ) → j < at → (b : ℕ) → has (needs_of g (slice_index order j)) b ≡ true → (unwon b || waiting b) ≡ true → waiting (slice_index order j) ≡ true

pub seen_none : (g : Worlds) (order : List ℕ) (unwon waiting : ℕ → Bool) → ((k : ℕ) → waiting k ≡ false) → IsSeen g order unwon 0 waiting
seen_none g order unwon waiting none = record { sound = λ w e. absurd (false≢true (sym (none w) ∙ e)); closed = λ j h. absurd (omega arith) }

pub seen_skip : (g : Worlds) (order : List ℕ) (unwon waiting : ℕ → Bool) (at w : ℕ) → w ≡ slice_index order at
    → list_any unwon (needs_of g w) ≡ false → list_any waiting (needs_of g w) ≡ false → IsSeen g order unwon at waiting → IsSeen g order unwon (at + 1) waiting
seen_skip g order unwon waiting at w world no_unwon no_waiting so_far =
    record {
      sound = so_far.sound;
      closed = λ j h b e one. elim (cases_eq at j) [
        | inl same ↦
            let here : has (needs_of g w) b ≡ true = ap (λ v. has (needs_of g v) b) (world ∙ ap (slice_index order) same) ∙ e in
            elim (or_cases (unwon b) (waiting b) one) [
              | inl u ↦ absurd (false≢true (sym no_unwon ∙ any_has (needs_of g w) unwon b here u))
              | inr v ↦ absurd (false≢true (sym no_waiting ∙ any_has (needs_of g w) waiting b here v))
            ]
        | inr other ↦ so_far.closed j (omega arith) b e one
      ];
    }

pub seen_more : (g : Worlds) (order : List ℕ) (unwon : ℕ → Bool) (flags : List Bool) (at w : ℕ) → IsWorldOrder g order → at < length order → w < length flags → w ≡ slice_index order at
    → (list_any unwon (needs_of g w) || list_any (flag flags) (needs_of g w)) ≡ true → IsSeen g order unwon at (flag flags) → IsSeen g order unwon (at + 1) (flag (set flags w true))
seen_more g order unwon flags at w ordered l room world hit so_far =
    let new : ℕ → Bool = flag (set flags w true) in
    let marked : new w ≡ true = flag-set flags w w true room ∙ ap (λ c. cond c true (flag flags w)) (eq-eqb w w refl) in
    let other : (k : ℕ) → (w ≡ k → ⊥) → new k ≡ flag flags k = λ k d. flag-set flags w k true room ∙ ap (λ c. cond c true (flag flags k)) (ne_eqb w k d) in
    let more : (k : ℕ) → flag flags k ≡ true → new k ≡ true =
    λ k e. elim (cases_eq w k) [ inl same ↦ ap new (sym same) ∙ marked | inr d ↦ other k d ∙ e ] in
    let found : NeedsOne g unwon w =
    elim (or_cases (list_any unwon (needs_of g w)) (list_any (flag flags) (needs_of g w)) hit) [
      | inl u ↦ let r = any_gives (needs_of g w) unwon u in (r.0, Needs.directly r.0 r.1, r.2)
      | inr v ↦
          let r = any_gives (needs_of g w) (flag flags) v in
          let s = so_far.sound r.0 r.2 in
          (s.0, needs_on g w r.0 s.0 (Needs.directly r.0 r.1) s.1, s.2)
    ] in
    record {
      sound = λ k e. elim (cases_eq w k) [
        | inl same ↦ subst (NeedsOne g unwon) same found
        | inr d ↦ so_far.sound k (sym (other k d) ∙ e)
      ];
      closed = λ j h b e one. elim (cases_eq at j) [
        | inl same ↦ ap new (sym (world ∙ ap (slice_index order) same)) ∙ marked
        | inr earlier ↦
            elim (cases_eq w b) [
              | inl same ↦ absurd (apart g order ordered j at (omega arith) l (ap (has (needs_of g (slice_index order j))) (sym world ∙ same) ∙ e))
              | inr d ↦ more (slice_index order j) (so_far.closed j (omega arith) b e (ap (λ v. unwon b || v) (sym (other b d)) ∙ one))
            ]
      ];
    }

-- a world that needs another is a world
pub needs_below : (g : Worlds) (w b : ℕ) → Needs g w b → w < world_count g
needs_below g w b (Needs.directly _ e) =
    elim (cases_lt w (world_count g)) [ inl l ↦ l | inr past ↦ absurd (false≢true (ap (λ xs. has xs b) (sym (get_or_past g.needs w [] past)) ∙ e)) ]
needs_below g w b (Needs.through c _ n e) = needs_below g w c n

-- after the whole pass just those are marked that need one that is unwon
pub seen_all : (g : Worlds) (order : List ℕ) (unwon waiting : ℕ → Bool) → IsGraph g → IsWorldOrder g order → IsSeen g order unwon (length order) waiting
    → (w : ℕ) → (waiting w ≡ true) ↔ NeedsOne g unwon w
seen_all g order unwon waiting graph ordered seen w = (seen.sound w, λ r. marked r.0 (or_left (unwon r.0) (waiting r.0) r.2) r.1)
  where
    at_world : (a b : ℕ) → a < world_count g → has (needs_of g a) b ≡ true → (unwon b || waiting b) ≡ true → waiting a ≡ true
    at_world a b h e one =
        let r = has_place order a (ordered.every_world a h) in
        ap waiting (sym r.2) ∙ seen.closed r.0 r.1 b (ap (λ v. has (needs_of g v) b) r.2 ∙ e) one

    marked : (b : ℕ) → (unwon b || waiting b) ≡ true → Needs g w b → waiting w ≡ true
    marked b one (Needs.directly _ e) = at_world w b (needs_below g w b (Needs.directly b e)) e one
    marked b one (Needs.through c _ n e) = marked c (or_right (unwon c) (waiting c) (at_world c b (in_range g graph w c n) e one)) n

-- ---- levels that aren't won

-- the flag of a world is set
pub marked : (flags : List Bool) (n m w : ℕ) (won : Bool) → n < length flags → n ≡ m → won ≡ false → IsTrue (flag (set flags n true) w) ↔ (IsTrue (flag flags w) ⊎ ((m ≡ w) × (won ≡ false)))
marked flags n m w won h same down = (
  (λ e. elim (cases_eq n w) [ inl here ↦ inr (sym same ∙ here, down) | inr d ↦ inl (sym (kept d) ∙ e) ]),
  (λ s. elim (cases_eq n w) [
    | inl here ↦ flag-set flags n w true h ∙ ap (λ c. cond c true (flag flags w)) (eq-eqb n w here)
    | inr d ↦ elim s [ inl before ↦ kept d ∙ before | inr here ↦ absurd (d (same ∙ here.0)) ]
  ]),
)
  where
    kept : (n ≡ w → ⊥) → flag (set flags n true) w ≡ flag flags w
    kept d = flag-set flags n w true h ∙ ap (λ c. cond c true (flag flags w)) (ne_eqb n w d)

-- what is added to two sides that are one is added to both
pub grow : (N O H A B : Type 0) → N ↔ (O ⊎ H) → O ↔ A → B ↔ (A ⊎ H) → N ↔ B
grow N O H A B new old more = (
  (λ n. more.1 (elim (new.0 n) [ inl o ↦ inl (old.0 o) | inr h ↦ inr h ])),
  (λ b. new.1 (elim (more.0 b) [ inl a ↦ inl (old.1 a) | inr h ↦ inr h ])),
)

-- and so it is beside a third
pub beside : (W A B H : Type 0) → B ↔ (A ⊎ H) → (W ⊎ B) ↔ ((W ⊎ A) ⊎ H)
beside W A B H more = (
  (λ s. elim s [ inl w ↦ inl (inl w) | inr b ↦ elim (more.0 b) [ inl a ↦ inl (inr a) | inr h ↦ inr h ] ]),
  (λ s. elim s [
    | inl before ↦ elim before [ inl w ↦ inl w | inr a ↦ inr (more.1 (inl a)) ]
    | inr h ↦ inr (more.1 (inr h))
  ]),
)

-- before the first level none was looked at
pub unwon_none : (p : Plan) (won : List Bool) (w : ℕ) → HasUnwon p won 0 w → ⊥
unwon_none p won w r = absurd (omega (arith, r.1))

-- one more level was looked at
pub unwon_more : (p : Plan) (won : List Bool) (at w : ℕ) → HasUnwon p won (at + 1) w ↔ (HasUnwon p won at w ⊎ ((world_of p at ≡ w) × (flag won at ≡ false)))
unwon_more p won at w = (
  (λ r. elim (cases_eq at r.0) [
    | inl same ↦ inr (ap (world_of p) same ∙ r.2, ap (flag won) same ∙ r.3)
    | inr other ↦ inl (r.0, omega (arith, r.1), r.2, r.3)
  ]),
  (λ s. elim s [
    | inl before ↦ (before.0, omega (arith, before.1), before.2, before.3)
    | inr here ↦ (at, omega arith, here.0, here.1)
  ]),
)

-- one more flag, which tells what it should
pub flags_and_one : (P : ℕ → Type 0) (flags : List Bool) (b : Bool) (at : ℕ) → length flags ≡ at → ((k : ℕ) → k < at → IsTrue (flag flags k) ↔ P k) → (IsTrue b ↔ P at)
    → (k : ℕ) → k < at + 1 → IsTrue (flag (flags ++ b ∷ []) k) ↔ P k
flags_and_one P flags b at long so_far here k h =
    elim (cases_lt k at) [
      | inl l ↦ subst (λ c. IsTrue c ↔ P k) (sym (get_or_append_left flags (b ∷ []) false k (omega arith))) (so_far k l)
      | inr l ↦
          let same : at ≡ k = omega arith in
          subst (λ c. IsTrue c ↔ P k) (sym (get_or_push flags b false k (long ∙ same))) (subst (λ n. IsTrue b ↔ P n) same here)
    ]

-- the flag of its world tells whether a level is open, where it stands for a world that waits or has a level before this one that isn't won
pub open_at : (p : Plan) (won : List Bool) (level : ℕ) (closed : Bool) → level < length p.levels
    → (IsTrue closed ↔ (IsWaiting p won (world_of p level) ⊎ HasUnwon p won level (world_of p level))) → IsTrue (not closed) ↔ IsOpen p won level
open_at p won level closed h means = (to closed means.1, from closed means.0)
  where
    none : (k : ℕ) → IsBefore p level k → flag won k ≡ false → IsWaiting p won (world_of p level) ⊎ HasUnwon p won level (world_of p level)
    none k before down =
        elim before.1 [
          | inl needed ↦ inl (world_of p k, needed, (k, before.0, refl, down))
          | inr same ↦ inr (k, same.1, same.0, down)
        ]

    to : (c : Bool) → (IsWaiting p won (world_of p level) ⊎ HasUnwon p won level (world_of p level) → c ≡ true) → not c ≡ true → IsOpen p won level
    to true set e k before = absurd (false≢true e)
    to false set e k before = elim (cases_Bool (flag won k)) [ inl up ↦ up | inr down ↦ absurd (false≢true (set (none k before down))) ]

    from : (c : Bool) → (c ≡ true → IsWaiting p won (world_of p level) ⊎ HasUnwon p won level (world_of p level)) → IsOpen p won level → not c ≡ true
    from false set is_open = refl
    from true set is_open =
        elim (set refl) [
          | inl waits ↦
              let r = waits.2 in
              absurd (false≢true (sym r.3 ∙ is_open r.0 (r.1, inl (subst (Needs p.worlds (world_of p level)) (sym r.2) waits.1))))
          | inr unwon ↦ absurd (false≢true (sym unwon.3 ∙ is_open unwon.0 (omega (arith, unwon.1), inr (unwon.2, unwon.1))))
        ]
