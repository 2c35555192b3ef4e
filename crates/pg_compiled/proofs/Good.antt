-- The game of commands without a fault is whole.
use Rattle.std.proofs.Common.{◌≡◌, ◌≢◌, ◌*◌, get_or, lt-ltb, ◌∙◌, ℕ, zero, suc, ◌+◌, ◌<◌, ◌≤◌, Bool, true, false, ◌||◌, not, List, [], ◌∷◌, ◌++◌, length, map, refl, sym, ap, subst, arith, inl, inr, Option, Some, None, if◌then◌else◌, ◌⊎◌}
use Rattle.std.proofs.lemmas.List.{length-map, length-append}
use Rattle.std.proofs.lemmas.Bool.{cases_lt}
use Rattle.std.proofs.lemmas.Bool.Decides.{eqb_tells}
use Rattle.std.proofs.lemmas.Slice.Eq.{bytes_eq-Decides}
use Rattle.std.specs.Prelude.{◌==◌, nat_lt, filter, slice_index, unwrap_or, position}
use Rattle.std.specs.List.{prefix_len}
use Rattle.std.specs.Str.{bytes_eq}
use Rattle.std.specs.List.{list_any}
use Rattle.pg_base.specs.Tokens.{Word}
use Rattle.pg_logic.specs.Declarations.{Name}
use Rattle.pg_gametext.specs.Faults.{Fault, Kind, fault, fault_if, Limit, Worlds, Levels, one_more, world_limit, level_limit, Expected}
use Rattle.pg_gametext.specs.Forms.{Told, Link}
use Rattle.pg_gametext.specs.Placed.{Command, game, text, world, level, statement, tactics, theorems, dependency, function, constant, predicate, passed, no_command, Placed}
use Rattle.pg_gametext.specs.Before.{text_of, is_world_name, world_named, current_world, in_level, lacks_statement, with_name, worlds, same_name, levels_of, level_count}
use Rattle.pg_gametext.specs.Checks.{command_faults, own_faults, out_of_place, world_faults, world_faults_of, has_no_world, number_faults}
use Rattle.pg_gametext.specs.Game.{Level, Need, WorldText, place_in, current_level, ended_level, ended_levels, levels, world_text, links, link_words, unknown_worlds, need_of, is_need, without_repeats, needs}
use Rattle.pg_compiled.specs.Plan.{levels_of_world}
use Rattle.pg_compiled.specs.Whole.{AreBelow, AreFaultless, WholeLaw}
use Rattle.pg_compiled.proofs.Available.{never}

-- ---- no faults

first_none : {X : Type 0} (xs ys : List X) → xs ++ ys ≡ [] → xs ≡ []
first_none [] ys e = refl
first_none (x ∷ xs) ys e = absurd cc

then_none : {X : Type 0} (xs ys : List X) → xs ++ ys ≡ [] → ys ≡ []
then_none [] ys e = e
then_none (x ∷ xs) ys e = absurd cc

quiet : (b : Bool) (at : ℕ) (k : Kind) → fault_if b at k ≡ [] → b ≡ false
quiet true at k e = absurd cc
quiet false at k e = refl

-- what stands below a limit where one more would be told
below_limit : (n limit at : ℕ) (k : Kind) → n ≤ limit → fault_if (n == limit) at k ≡ [] → n < limit
below_limit n limit at k le e =
    elim (eqb_tells n limit) [
      | inl same ↦ never (sym (quiet (n == limit) at k e) ∙ same.0)
      | inr other ↦ (let differ : n ≢ limit = other.1 in omega (arith, le, differ))
    ]

-- a command's own faults, of a command that has none
own_none : (before : List Placed) (c : Placed) → command_faults before c ≡ [] → own_faults before c.at c.command ≡ []
own_none before c e = then_none _ _ (then_none _ _ e)

-- ---- names of worlds

with_few : (x : Name) (names : List Name) (at : ℕ) → length names ≤ 64 → (if list_any (bytes_eq x) names then [] else one_more Worlds world_limit (length names) at) ≡ [] → length (with_name (Some x) names) ≤ 64
with_few x names at le e =
    elim (list_any (bytes_eq x) names) as (λ b. (if b then [] else one_more Worlds world_limit (length names) at) ≡ [] → length (if b then names else names ++ x ∷ []) ≤ 64) [
      | true ↦ λ e. le
      | false ↦ λ e. omega (arith, length-append names (x ∷ []), below_limit (length names) 64 at (Limit Worlds 65) le e)
    ] e

-- a world's text is a name
named_few : (before : List Placed) (at : ℕ) (w : Word) → length (worlds before) ≤ 64 → world_faults_of before at w ≡ [] → length (with_name (Some (text_of w)) (worlds before)) ≤ 64
named_few before at w le e =
    elim (is_world_name (text_of w)) as (λ b. (if b then (if list_any (bytes_eq (text_of w)) (worlds before) then [] else one_more Worlds world_limit (length (worlds before)) at) else fault w.at Expected ∷ []) ≡ [] → length (with_name (Some (text_of w)) (worlds before)) ≤ 64) [
      | true ↦ λ e. with_few (text_of w) (worlds before) at le e
      | false ↦ λ e. absurd cc
    ] e

world_few : (before : List Placed) (at : ℕ) (value : Option Word) → length (worlds before) ≤ 64 → world_faults before at value ≡ [] → length (with_name (world_named value) (worlds before)) ≤ 64
world_few before at None le e = le
world_few before at (Some w) le e = named_few before at w le (then_none (out_of_place (lacks_statement before) at) _ e)

step_few : (before : List Placed) (at end : ℕ) (k : Command) → own_faults before at k ≡ [] → length (worlds before) ≤ 64 → length (worlds (record { at = at; command = k; end = end } ∷ before)) ≤ 64
step_few before at end (world t) e le = world_few before at t.value le e
step_few before at end (game t) e le = le
step_few before at end (text w t) e le = le
step_few before at end (level t) e le = le
step_few before at end (statement t) e le = le
step_few before at end (tactics l t) e le = le
step_few before at end (theorems l t) e le = le
step_few before at end (dependency t) e le = le
step_few before at end (function t) e le = le
step_few before at end (constant t) e le = le
step_few before at end (predicate t) e le = le
step_few before at end passed e le = le
step_few before at end no_command e le = le

pub few_worlds : (before : List Placed) → AreFaultless before → length (worlds before) ≤ 64
few_worlds [] ok = omega arith
few_worlds (c ∷ before) ok = step_few before c.at c.end c.command (own_none before c ok.0) (few_worlds before ok.1)

-- ---- where a name stands

-- the first place of a name among names
abbrev pub IsPlace : Name → ℕ → List Name → Type 0
IsPlace x i [] = ⊥
IsPlace x zero (y ∷ ys) = bytes_eq x y ≡ true
IsPlace x (suc i) (y ∷ ys) = (bytes_eq x y ≡ false) × IsPlace x i ys

place_more : (x : Name) (i : ℕ) (ys zs : List Name) → IsPlace x i ys → IsPlace x i (ys ++ zs)
place_more x i [] zs p = absurd p
place_more x zero (y ∷ ys) zs p = p
place_more x (suc i) (y ∷ ys) zs p = (p.0, place_more x i ys zs p.1)

place_one : (x : Name) (i j : ℕ) (ys : List Name) → IsPlace x i ys → IsPlace x j ys → i ≡ j
place_one x i j [] p q = absurd p
place_one x zero zero (y ∷ ys) p q = refl
place_one x zero (suc j) (y ∷ ys) p q = never (sym q.0 ∙ p)
place_one x (suc i) zero (y ∷ ys) p q = never (sym p.0 ∙ q)
place_one x (suc i) (suc j) (y ∷ ys) p q = ap suc (place_one x i j ys p.1 q.1)

place_below : (x : Name) (i : ℕ) (ys : List Name) → IsPlace x i ys → i < length ys
place_below x i [] p = absurd p
place_below x zero (y ∷ ys) p = omega arith
place_below x (suc i) (y ∷ ys) p = omega (arith, place_below x i ys p.1)

-- two names with one place are one
same_place : (x z : Name) (i : ℕ) (ys : List Name) → IsPlace x i ys → IsPlace z i ys → x ≡ z
same_place x z i [] p q = absurd p
same_place x z zero (y ∷ ys) p q = (bytes_eq-Decides x y).0 p ∙ sym ((bytes_eq-Decides z y).0 q)
same_place x z (suc i) (y ∷ ys) p q = same_place x z i ys p.1 q.1

place_in_is : (x : Name) (i : ℕ) (ys : List Name) → IsPlace x i ys → position (bytes_eq x) ys ≡ Some i
place_in_is x i ys p = rw (here x i ys p) (rw (lt-ltb i (length ys) (place_below x i ys p)) refl)
  where
    here : (x : Name) (i : ℕ) (ys : List Name) → IsPlace x i ys → prefix_len (λ (y : Name). not (bytes_eq x y)) ys ≡ i
    here x i [] p = absurd p
    here x zero (y ∷ ys) p = rw p refl
    here x (suc i) (y ∷ ys) p = rw p.0 (omega (arith, here x i ys p.1))

-- a name that stands nowhere, put last
place_new : (x : Name) (ys : List Name) → list_any (bytes_eq x) ys ≡ false → IsPlace x (length ys) (ys ++ x ∷ [])
place_new x [] e = (bytes_eq-Decides x x).1 refl
place_new x (y ∷ ys) e = let r = neither (bytes_eq x y) (list_any (bytes_eq x) ys) e in (r.0, place_new x ys r.1)
  where
    neither : (a b : Bool) → (a || b) ≡ false → (a ≡ false) × (b ≡ false)
    neither true b e = absurd cc
    neither false b e = (refl, e)

-- a name among them has a place
place_of_any : (x : Name) (ys : List Name) → list_any (bytes_eq x) ys ≡ true → (i : ℕ) × IsPlace x i ys
place_of_any x [] e = never e
place_of_any x (y ∷ ys) e =
    elim (bytes_eq x y) as (λ b. bytes_eq x y ≡ b → (b || list_any (bytes_eq x) ys) ≡ true → (i : ℕ) × IsPlace x i (y ∷ ys)) [
      | true ↦ λ is e. (0, is)
      | false ↦ λ is e. (let r = place_of_any x ys e in (suc r.0, (is, r.1)))
    ] refl e

-- a place among more names, of a name that is not the last
place_before : (x z : Name) (i : ℕ) (ys : List Name) → IsPlace x i (ys ++ z ∷ []) → (IsPlace x i ys) ⊎ ((i ≡ length ys) × (x ≡ z))
place_before x z zero [] p = inr (refl, (bytes_eq-Decides x z).0 p)
place_before x z (suc i) [] p = absurd p.1
place_before x z zero (y ∷ ys) p = inl p
place_before x z (suc i) (y ∷ ys) p =
    elim (place_before x z i ys p.1) [
      | inl q ↦ inl (p.0, q)
      | inr q ↦ inr (ap suc q.0, q.1)
    ]

any_of_place : (x : Name) (i : ℕ) (ys : List Name) → IsPlace x i ys → list_any (bytes_eq x) ys ≡ true
any_of_place x i [] p = absurd p
any_of_place x zero (y ∷ ys) p = rw p refl
any_of_place x (suc i) (y ∷ ys) p = rw p.0 (any_of_place x i ys p.1)

not_among : (x z : Name) (ys : List Name) → list_any (bytes_eq x) (ys ++ z ∷ []) ≡ false → list_any (bytes_eq x) ys ≡ false
not_among x z [] e = refl
not_among x z (y ∷ ys) e =
    elim (bytes_eq x y) as (λ b. (b || list_any (bytes_eq x) (ys ++ z ∷ [])) ≡ false → (b || list_any (bytes_eq x) ys) ≡ false) [
      | true ↦ λ e. e
      | false ↦ λ e. not_among x z ys e
    ] e

-- ---- how many levels a world has

abbrev count : ℕ → List Level → ℕ
count w ls = length (levels_of_world ls w)

abbrev one_if : Bool → ℕ
one_if true = 1
one_if false = 0

count_push : (w : ℕ) (ls : List Level) (l : Level) → count w (ls ++ l ∷ []) ≡ count w ls + one_if (l.world == w)
count_push w [] l = elim (l.world == w) as (λ b. length (if b then l ∷ [] else []) ≡ 0 + one_if b) [ true ↦ omega arith | false ↦ omega arith ]
count_push w (m ∷ ms) l =
    elim (m.world == w) as (λ b. length (if b then m ∷ levels_of_world (ms ++ l ∷ []) w else levels_of_world (ms ++ l ∷ []) w) ≡ length (if b then m ∷ levels_of_world ms w else levels_of_world ms w) + one_if (l.world == w)) [
      | true ↦ omega (arith, count_push w ms l)
      | false ↦ count_push w ms l
    ]

-- the last level counts by its world alone
same_count : (w : ℕ) (b : Bool) (ls : List Level) (l m : Level) → l.world ≡ m.world → count w (if b then ls ++ l ∷ [] else ls) ≡ count w (if b then ls ++ m ∷ [] else ls)
same_count w true ls l m e = count_push w ls l ∙ ap (λ v. count w ls + one_if (v == w)) e ∙ sym (count_push w ls m)
same_count w false ls l m e = refl

-- What the levels of some commands are to the worlds of these.
record Counted (before : List Placed) : Type 0 where
  known : (x : Name) → current_world before ≡ Some x → (i : ℕ) × IsPlace x i (worlds before)
  counts : (x : Name) (i : ℕ) → IsPlace x i (worlds before) → count i (levels before) ≡ levels_of (Some x) before
  beyond : (i : ℕ) → length (worlds before) ≤ i → count i (levels before) ≡ 0
  unseen : (x : Name) → list_any (bytes_eq x) (worlds before) ≡ false → levels_of (Some x) before ≡ 0

-- ---- commands that are neither worlds nor levels

others : (before all : List Placed) → worlds all ≡ worlds before → current_world all ≡ current_world before → in_level all ≡ in_level before → ended_levels all ≡ ended_levels before
    → ((x : Name) → levels_of (Some x) all ≡ levels_of (Some x) before) → Counted before → Counted all
others before all ws cw il el lo h =
    record {
      known = λ x e. (let r = h.known x (sym cw ∙ e) in (r.0, subst (IsPlace x r.0) (sym ws) r.1));
      counts = λ x i p. same i ∙ h.counts x i (subst (IsPlace x i) ws p) ∙ sym (lo x);
      beyond = λ i le. same i ∙ h.beyond i (subst (λ (ns : List Name). length ns ≤ i) ws le);
      unseen = λ x e. lo x ∙ h.unseen x (sym (ap (list_any (bytes_eq x)) ws) ∙ e);
    }
  where
    its_world : (current_level all).world ≡ (current_level before).world
    its_world =
        ap (λ (ns : List Name). unwrap_or (place_in ns (unwrap_or (current_world all) [])) 0) ws
        ∙ ap (λ (c : Option Name). unwrap_or (place_in (worlds before) (unwrap_or c [])) 0) cw

    same : (i : ℕ) → count i (levels all) ≡ count i (levels before)
    same i =
        ap (λ (ls : List Level). count i (ended_level all ls)) el
        ∙ ap (λ b. count i (if b then ended_levels before ++ current_level all ∷ [] else ended_levels before)) il
        ∙ same_count i (in_level before) (ended_levels before) (current_level all) (current_level before) its_world

-- ---- a level

abbrev level_at : ℕ → ℕ → Told (Option Word) → Placed
level_at at end t = record { at = at; command = level t; end = end }

level_of_world : (before : List Placed) (at end : ℕ) (t : Told (Option Word)) (y : Name) → current_world before ≡ Some y → Counted before → Counted (level_at at end t ∷ before)
level_of_world before at end t y cw h =
    record {
      known = h.known;
      counts = λ x i p. count_push i (levels before) now ∙ (let c = h.counts x i p in by_name x i p (bytes_eq x y) refl c);
      beyond = λ i le. count_push i (levels before) now ∙ (let c = h.beyond i le in let d = other i (λ same. omega (arith, place_below y j (worlds before) place, le, same)) in omega (arith, c, ap one_if d));
      unseen = λ x e. lo x ∙ (let c = h.unseen x e in unseen_by x e (bytes_eq x y) refl c);
    }
  where
    j : ℕ
    j = (h.known y cw).0

    place : IsPlace y j (worlds before)
    place = (h.known y cw).1

    now : Level
    now = current_level (level_at at end t ∷ before)

    its_world : now.world ≡ j
    its_world = ap (λ (c : Option Name). unwrap_or (place_in (worlds before) (unwrap_or c [])) 0) cw ∙ ap (λ (o : Option ℕ). unwrap_or o 0) (place_in_is y j (worlds before) place)

    lo : (x : Name) → levels_of (Some x) (level_at at end t ∷ before) ≡ (if bytes_eq x y then suc (levels_of (Some x) before) else levels_of (Some x) before)
    lo x = ap (λ (c : Option Name). if same_name (Some x) c then suc (levels_of (Some x) before) else levels_of (Some x) before) cw

    other : (i : ℕ) → (j ≡ i → ⊥) → (now.world == i) ≡ false
    other i differ = elim (eqb_tells now.world i) [ inl same ↦ absurd (differ (sym its_world ∙ same.1)) | inr different ↦ different.0 ]

    here : (i : ℕ) → j ≡ i → (now.world == i) ≡ true
    here i same = elim (eqb_tells now.world i) [ inl is ↦ is.0 | inr different ↦ absurd (different.1 (its_world ∙ same)) ]

    by_name : (x : Name) (i : ℕ) → IsPlace x i (worlds before) → (b : Bool) → bytes_eq x y ≡ b → count i (levels before) ≡ levels_of (Some x) before
        → count i (levels before) + one_if (now.world == i) ≡ levels_of (Some x) (level_at at end t ∷ before)
    by_name x i p true is c =
        let xy : x ≡ y = (bytes_eq-Decides x y).0 is in
        let one = here i (place_one y j i (worlds before) place (subst (λ (n : Name). IsPlace n i (worlds before)) xy p)) in
        omega (arith, c, ap one_if one, lo x ∙ ap (λ b. if b then suc (levels_of (Some x) before) else levels_of (Some x) before) is)
    by_name x i p false is c =
        let none = other i (λ same. never (sym is ∙ (bytes_eq-Decides x y).1 (same_place x y i (worlds before) p (subst (λ k. IsPlace y k (worlds before)) same place)))) in
        omega (arith, c, ap one_if none, lo x ∙ ap (λ b. if b then suc (levels_of (Some x) before) else levels_of (Some x) before) is)

    unseen_by : (x : Name) → list_any (bytes_eq x) (worlds before) ≡ false → (b : Bool) → bytes_eq x y ≡ b → levels_of (Some x) before ≡ 0 → (if bytes_eq x y then suc (levels_of (Some x) before) else levels_of (Some x) before) ≡ 0
    unseen_by x e true is c =
        let xy : x ≡ y = (bytes_eq-Decides x y).0 is in
        never (sym e ∙ any_of_place x j (worlds before) (subst (λ (n : Name). IsPlace n j (worlds before)) (sym xy) place))
    unseen_by x e false is c = ap (λ b. if b then suc (levels_of (Some x) before) else levels_of (Some x) before) is ∙ c

-- a level without a fault has a world
level_counted : (before : List Placed) (at end : ℕ) (t : Told (Option Word)) → own_faults before at (level t) ≡ [] → Counted before → Counted (level_at at end t ∷ before)
level_counted before at end t e h =
    by_world (current_world before) refl (quiet (lacks_statement before || has_no_world (current_world before)) at Expected (first_none _ _ e))
  where
    by_world : (c : Option Name) → current_world before ≡ c → (lacks_statement before || has_no_world (current_world before)) ≡ false → Counted (level_at at end t ∷ before)
    by_world None is placed = never (sym placed ∙ (ap (λ (c : Option Name). lacks_statement before || has_no_world c) is ∙ worldless (lacks_statement before)))
      where
        worldless : (b : Bool) → (b || true) ≡ true
        worldless true = refl
        worldless false = refl
    by_world (Some y) is placed = level_of_world before at end t y is h

-- ---- a world

abbrev world_at : ℕ → ℕ → Told (Option Word) → Placed
world_at at end t = record { at = at; command = world t; end = end }

world_known : (x y : Name) (names : List Name) → x ≡ y → (i : ℕ) × IsPlace y i (with_name (Some x) names)
world_known x y names e =
    subst (λ (n : Name). (i : ℕ) × IsPlace n i (with_name (Some x) names)) e
    (elim (list_any (bytes_eq x) names) as (λ b. list_any (bytes_eq x) names ≡ b → (i : ℕ) × IsPlace x i (if b then names else names ++ x ∷ [])) [
      | true ↦ λ is. place_of_any x names is
      | false ↦ λ is. (length names, place_new x names is)
    ] refl)

world_counts : (before : List Placed) (x z : Name) (i : ℕ) → Counted before → IsPlace z i (with_name (Some x) (worlds before)) → count i (levels before) ≡ levels_of (Some z) before
world_counts before x z i h =
    elim (list_any (bytes_eq x) (worlds before)) as (λ b. list_any (bytes_eq x) (worlds before) ≡ b → IsPlace z i (if b then worlds before else worlds before ++ x ∷ []) → count i (levels before) ≡ levels_of (Some z) before) [
      | true ↦ λ is p. h.counts z i p
      | false ↦ λ is p. elim (place_before z x i (worlds before) p) [
        | inl q ↦ h.counts z i q
        | inr q ↦ h.beyond i (omega (arith, q.0)) ∙ sym (ap (λ (n : Name). levels_of (Some n) before) q.1 ∙ h.unseen x is)
      ]
    ] refl

longer : (x : Name) (names : List Name) → length names ≤ length (with_name (Some x) names)
longer x names = elim (list_any (bytes_eq x) names) as (λ b. length names ≤ length (if b then names else names ++ x ∷ [])) [ true ↦ omega arith | false ↦ omega (arith, length-append names (x ∷ [])) ]

fewer_seen : (x z : Name) (names : List Name) → list_any (bytes_eq z) (with_name (Some x) names) ≡ false → list_any (bytes_eq z) names ≡ false
fewer_seen x z names =
    elim (list_any (bytes_eq x) names) as (λ b. list_any (bytes_eq z) (if b then names else names ++ x ∷ []) ≡ false → list_any (bytes_eq z) names ≡ false) [ true ↦ λ e. e | false ↦ λ e. not_among z x names e ]

world_counted : (before : List Placed) (at end : ℕ) (value : Option Word) (stuck : Option ℕ) → Counted before → Counted (world_at at end (record { value = value; stuck = stuck }) ∷ before)
world_counted before at end None stuck h =
    record {
      known = λ x e. absurd cc;
      counts = h.counts;
      beyond = h.beyond;
      unseen = h.unseen;
    }
world_counted before at end (Some w) stuck h =
    let x = text_of w in
    record {
      known = λ y e. world_known x y (worlds before) (let same : x ≡ y = cc in same);
      counts = λ y i p. world_counts before x y i h p;
      beyond = λ i le. h.beyond i (omega (arith, longer x (worlds before), le));
      unseen = λ y e. h.unseen y (fewer_seen x y (worlds before) e);
    }

step_counted : (before : List Placed) (at end : ℕ) (k : Command) → own_faults before at k ≡ [] → Counted before → Counted (record { at = at; command = k; end = end } ∷ before)
step_counted before at end (world t) e h = world_counted before at end t.value t.stuck h
step_counted before at end (level t) e h = level_counted before at end t e h
step_counted before at end (game t) e h = others before (record { at = at; command = game t; end = end } ∷ before) refl refl refl refl (λ x. refl) h
step_counted before at end (text w t) e h = others before (record { at = at; command = text w t; end = end } ∷ before) refl refl refl refl (λ x. refl) h
step_counted before at end (statement t) e h = others before (record { at = at; command = statement t; end = end } ∷ before) refl refl refl refl (λ x. refl) h
step_counted before at end (tactics l t) e h = others before (record { at = at; command = tactics l t; end = end } ∷ before) refl refl refl refl (λ x. refl) h
step_counted before at end (theorems l t) e h = others before (record { at = at; command = theorems l t; end = end } ∷ before) refl refl refl refl (λ x. refl) h
step_counted before at end (dependency t) e h = others before (record { at = at; command = dependency t; end = end } ∷ before) refl refl refl refl (λ x. refl) h
step_counted before at end (function t) e h = others before (record { at = at; command = function t; end = end } ∷ before) refl refl refl refl (λ x. refl) h
step_counted before at end (constant t) e h = others before (record { at = at; command = constant t; end = end } ∷ before) refl refl refl refl (λ x. refl) h
step_counted before at end (predicate t) e h = others before (record { at = at; command = predicate t; end = end } ∷ before) refl refl refl refl (λ x. refl) h
step_counted before at end passed e h = others before (record { at = at; command = passed; end = end } ∷ before) refl refl refl refl (λ x. refl) h
step_counted before at end no_command e h = others before (record { at = at; command = no_command; end = end } ∷ before) refl refl refl refl (λ x. refl) h

counted : (before : List Placed) → AreFaultless before → Counted before
counted [] ok =
    record {
      known = λ x e. absurd cc;
      counts = λ x i p. absurd p;
      beyond = λ i le. refl;
      unseen = λ x e. refl;
    }
counted (c ∷ before) ok = step_counted before c.at c.end c.command (own_none before c ok.0) (counted before ok.1)

-- ---- limits

few_by : (before : List Placed) (x : Name) (c : Option Name) → levels_of (Some x) before ≤ 64 → levels_of c before < 64 → (if same_name (Some x) c then suc (levels_of (Some x) before) else levels_of (Some x) before) ≤ 64
few_by before x None le less = le
few_by before x (Some y) le less =
    elim (bytes_eq x y) as (λ b. bytes_eq x y ≡ b → (if b then suc (levels_of (Some x) before) else levels_of (Some x) before) ≤ 64) [
      | true ↦ λ is. omega (arith, less, ap (λ (n : Name). levels_of (Some n) before) ((bytes_eq-Decides x y).0 is))
      | false ↦ λ is. le
    ] refl

-- the limit is on the current world's levels; where there is no world, the place is wrong
level_few : (before : List Placed) (at : ℕ) (t : Told (Option Word)) → own_faults before at (level t) ≡ [] → levels_of (current_world before) before ≤ 64 → levels_of (current_world before) before < 64
level_few before at t e le = below_limit (levels_of (current_world before) before) 64 at (Limit Levels 65) le (first_none _ _ (then_none _ _ e))

few_current : (before : List Placed) (c : Option Name) → ((x : Name) → levels_of (Some x) before ≤ 64) → (c ≡ None → levels_of c before ≤ 64) → levels_of c before ≤ 64
few_current before None all none = none refl
few_current before (Some x) all none = all x

step_levels : (before : List Placed) (at end : ℕ) (k : Command) → own_faults before at k ≡ [] → ((x : Name) → levels_of (Some x) before ≤ 64) → (x : Name) → levels_of (Some x) (record { at = at; command = k; end = end } ∷ before) ≤ 64
step_levels before at end (level t) e h x = by_world (current_world before) refl
  where
    by_world : (c : Option Name) → current_world before ≡ c → (if same_name (Some x) (current_world before) then suc (levels_of (Some x) before) else levels_of (Some x) before) ≤ 64
    by_world None is = subst (λ (c : Option Name). (if same_name (Some x) c then suc (levels_of (Some x) before) else levels_of (Some x) before) ≤ 64) (sym is) (h x)
    by_world (Some y) is =
        few_by before x (current_world before) (h x) (level_few before at t e (subst (λ (c : Option Name). levels_of c before ≤ 64) (sym is) (h y)))
step_levels before at end (world t) e h x = h x
step_levels before at end (game t) e h x = h x
step_levels before at end (text w t) e h x = h x
step_levels before at end (statement t) e h x = h x
step_levels before at end (tactics l t) e h x = h x
step_levels before at end (theorems l t) e h x = h x
step_levels before at end (dependency t) e h x = h x
step_levels before at end (function t) e h x = h x
step_levels before at end (constant t) e h x = h x
step_levels before at end (predicate t) e h x = h x
step_levels before at end passed e h x = h x
step_levels before at end no_command e h x = h x

few_levels : (before : List Placed) → AreFaultless before → (x : Name) → levels_of (Some x) before ≤ 64
few_levels [] ok x = omega arith
few_levels (c ∷ before) ok x = step_levels before c.at c.end c.command (own_none before c ok.0) (few_levels before ok.1) x

-- ---- each name of a world stands once

abbrev Firsts : List Name → Type 0
Firsts names = (i : ℕ) → i < length names → IsPlace (get_or names i []) i names

left_of : (names : List Name) (x : Name) (i : ℕ) → i < length names → get_or (names ++ x ∷ []) i [] ≡ get_or names i []
left_of [] x i less = absurd (omega (arith, less))
left_of (y ∷ ys) x zero less = refl
left_of (y ∷ ys) x (suc i) less = left_of ys x i (omega (arith, less))

last_of : (names : List Name) (x : Name) (i : ℕ) → i ≡ length names → get_or (names ++ x ∷ []) i [] ≡ x
last_of [] x zero e = refl
last_of [] x (suc i) e = absurd (omega (arith, e))
last_of (y ∷ ys) x zero e = absurd (omega (arith, e))
last_of (y ∷ ys) x (suc i) e = last_of ys x i (omega (arith, e))

firsts_push : (names : List Name) (x : Name) → list_any (bytes_eq x) names ≡ false → Firsts names → Firsts (names ++ x ∷ [])
firsts_push names x fresh h i less =
    elim (cases_lt i (length names)) [
      | inl front ↦ subst (λ (n : Name). IsPlace n i (names ++ x ∷ [])) (sym (left_of names x i front)) (place_more (get_or names i []) i names (x ∷ []) (h i front))
      | inr back ↦
          let e : i ≡ length names = omega (arith, back, less, length-append names (x ∷ [])) in
          subst (λ (n : Name). IsPlace n i (names ++ x ∷ [])) (sym (last_of names x i e)) (subst (λ k. IsPlace x k (names ++ x ∷ [])) (sym e) (place_new x names fresh))
    ]

firsts_with : (name : Option Name) (names : List Name) → Firsts names → Firsts (with_name name names)
firsts_with None names h = h
firsts_with (Some x) names h =
    elim (list_any (bytes_eq x) names) as (λ b. list_any (bytes_eq x) names ≡ b → Firsts (if b then names else names ++ x ∷ [])) [
      | true ↦ λ is. h
      | false ↦ λ is. firsts_push names x is h
    ] refl

firsts_step : (before : List Placed) (at end : ℕ) (k : Command) → Firsts (worlds before) → Firsts (worlds (record { at = at; command = k; end = end } ∷ before))
firsts_step before at end (world t) h = firsts_with (world_named t.value) (worlds before) h
firsts_step before at end (game t) h = h
firsts_step before at end (text w t) h = h
firsts_step before at end (level t) h = h
firsts_step before at end (statement t) h = h
firsts_step before at end (tactics l t) h = h
firsts_step before at end (theorems l t) h = h
firsts_step before at end (dependency t) h = h
firsts_step before at end (function t) h = h
firsts_step before at end (constant t) h = h
firsts_step before at end (predicate t) h = h
firsts_step before at end passed h = h
firsts_step before at end no_command h = h

firsts : (before : List Placed) → Firsts (worlds before)
firsts [] = λ i less. absurd (omega (arith, less))
firsts (c ∷ before) = firsts_step before c.at c.end c.command (firsts before)

-- ---- all levels

abbrev without : ℕ → List Level → List Level
without w ls = filter (λ (l : Level). not (l.world == w)) ls

split_length : (w : ℕ) (ls : List Level) → length ls ≡ count w ls + length (without w ls)
split_length w [] = omega arith
split_length w (l ∷ ls) =
    elim (l.world == w) as (λ b. suc (length ls) ≡ length (if b then l ∷ levels_of_world ls w else levels_of_world ls w) + length (if not b then l ∷ without w ls else without w ls)) [
      | true ↦ omega (arith, split_length w ls)
      | false ↦ omega (arith, split_length w ls)
    ]

-- of the others as many are left or fewer, and of that world none
count_without : (w v : ℕ) (ls : List Level) → count v (without w ls) ≤ count v ls
count_without w v [] = omega arith
count_without w v (l ∷ ls) =
    elim (l.world == w) as (λ b. count v (if not b then l ∷ without w ls else without w ls) ≤ count v (l ∷ ls)) [
      | true ↦ elim (l.world == v) as (λ b. count v (without w ls) ≤ length (if b then l ∷ levels_of_world ls v else levels_of_world ls v)) [ true ↦ omega (arith, count_without w v ls) | false ↦ count_without w v ls ]
      | false ↦ elim (l.world == v) as (λ b. length (if b then l ∷ levels_of_world (without w ls) v else levels_of_world (without w ls) v) ≤ length (if b then l ∷ levels_of_world ls v else levels_of_world ls v)) [ true ↦ omega (arith, count_without w v ls) | false ↦ count_without w v ls ]
    ]

none_without : (w : ℕ) (ls : List Level) → count w (without w ls) ≡ 0
none_without w [] = refl
none_without w (l ∷ ls) =
    elim (l.world == w) as (λ b. (l.world == w) ≡ b → count w (if not b then l ∷ without w ls else without w ls) ≡ 0) [
      | true ↦ λ is. none_without w ls
      | false ↦ λ is. ap (λ b. length (if b then l ∷ levels_of_world (without w ls) w else levels_of_world (without w ls) w)) is ∙ none_without w ls
    ] refl

no_level : (ls : List Level) → ((i : ℕ) → count i ls ≡ 0) → length ls ≡ 0
no_level [] none = refl
no_level (l ∷ ls) none =
    elim (eqb_tells l.world l.world) [
      | inl same ↦ absurd (omega (arith, sym (ap (λ b. length (if b then l ∷ levels_of_world ls l.world else levels_of_world ls l.world)) same.0) ∙ none l.world))
      | inr other ↦ absurd (other.1 refl)
    ]

-- at most 64 of each of so many worlds
few_in_all : (n : ℕ) (ls : List Level) → ((i : ℕ) → n ≤ i → count i ls ≡ 0) → ((i : ℕ) → count i ls ≤ 64) → length ls ≤ n * 64
few_in_all zero ls none few = omega (arith, no_level ls (λ i. none i (omega arith)))
few_in_all (suc n) ls none few =
    let rest = few_in_all n (without n ls) (λ i le. still i le) (λ i. omega (arith, count_without n i ls, few i)) in
    omega (arith, split_length n ls, few n, rest)
  where
    still : (i : ℕ) → n ≤ i → count i (without n ls) ≡ 0
    still i le =
        elim (eqb_tells i n) [
          | inl same ↦ subst (λ k. count k (without n ls) ≡ 0) (sym same.1) (none_without n ls)
          | inr other ↦ (let differ : i ≢ n = other.1 in omega (arith, count_without n i ls, none i (omega (arith, le, differ))))
        ]

-- ---- needs

known_first : (names : List Name) (w : Word) (ws : List Word) → unknown_worlds names (w ∷ ws) ≡ [] → (list_any (bytes_eq w.text) names ≡ true) × (unknown_worlds names ws ≡ [])
known_first names w ws =
    elim (list_any (bytes_eq w.text) names) as (λ b. (if not b then w.at ∷ unknown_worlds names ws else unknown_worlds names ws) ≡ [] → (b ≡ true) × (unknown_worlds names ws ≡ [])) [
      | true ↦ λ e. (refl, e)
      | false ↦ λ e. absurd cc
    ]

place_in_below : (names : List Name) (x : Name) → list_any (bytes_eq x) names ≡ true → unwrap_or (place_in names x) 0 < length names
place_in_below names x e =
    let r = place_of_any x names e in
    omega (arith, ap (λ (o : Option ℕ). unwrap_or o 0) (place_in_is x r.0 names r.1), place_below x r.0 names r.1)

needs_below : (names : List Name) (ls : List Link) → unknown_worlds names (link_words ls) ≡ [] → AreBelow (length names) (map (need_of names) ls)
needs_below names [] e = tt
needs_below names (l ∷ ls) e =
    let first = known_first names l.before (l.after ∷ link_words ls) e in
    let second = known_first names l.after (link_words ls) first.1 in
    (place_in_below names l.before.text first.0, needs_below names ls second.1)

each_once : (n : ℕ) (had ns : List Need) → AreBelow n ns → AreBelow n (without_repeats had ns)
each_once n had [] h = tt
each_once n had (m ∷ ms) h =
    elim (list_any (is_need m) had) as (λ b. AreBelow n (if b then without_repeats had ms else m ∷ without_repeats (m ∷ had) ms)) [
      | true ↦ each_once n had ms h.1
      | false ↦ (h.0, each_once n (m ∷ had) ms h.1)
    ]

-- ---- the law

said_levels : (all : List Placed) (names : List Name) (w : ℕ) → w < length names → slice_index (map (λ (t : WorldText). t.levels) (map (world_text all) names)) w ≡ levels_of (Some (get_or names w [])) all
said_levels all [] w less = absurd (omega (arith, less))
said_levels all (x ∷ xs) zero less = refl
said_levels all (x ∷ xs) (suc w) less = said_levels all xs w (omega (arith, less))

pub whole-law : WholeLaw
whole-law all ok known =
    let h = counted all ok in
    let few = few_worlds all ok in
    let said : length (map (world_text all) (worlds all)) ≡ length (worlds all) = length-map (worlds all) (world_text all) in
    let count_few : (i : ℕ) → count i (levels all) ≤ 64 = λ i.
    elim (cases_lt i (length (worlds all))) [
      | inl less ↦ omega (arith, h.counts (get_or (worlds all) i []) i (firsts all i less), few_levels all ok (get_or (worlds all) i []))
      | inr more ↦ omega (arith, h.beyond i more)
    ] in
    record {
      worlds = omega (arith, said, few);
      needs = subst (λ n. AreBelow n (needs (worlds all) all)) (sym said) (each_once (length (worlds all)) [] (map (need_of (worlds all)) (links all)) (needs_below (worlds all) (links all) known));
      counted = λ w less.
          let there : w < length (worlds all) = omega (arith, said, less) in
          h.counts (get_or (worlds all) w []) w (firsts all w there) ∙ sym (said_levels all (worlds all) w there);
      levels = omega (arith, few, few_in_all (length (worlds all)) (levels all) h.beyond count_few);
    }
