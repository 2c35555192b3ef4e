-- No world stands twice among the worlds, so what is kept of each is what the commands say of its name.
use Rattle.std.proofs.Common.{◌≡◌, ◌∙◌, ℕ, zero, suc, ◌+◌, ◌<◌, Bool, true, false, ◌||◌, not, cond, List, [], ◌∷◌, ◌++◌, length, map, refl, sym, ap, subst, arith, Option, Some, None, if◌then◌else◌, nat_lt}
use Rattle.std.specs.Prelude.{position}
use Rattle.std.specs.Str.{bytes_eq}
use Rattle.std.specs.List.{list_any, position_or_len}
use Rattle.std.specs.Option.{option_and_then}
use Rattle.std.proofs.lemmas.Bool.Decides.{nat_tests}
use Rattle.std.proofs.lemmas.List.Folds.{list_any-append}
use Rattle.std.proofs.lemmas.Slice.Eq.{bytes_eq-Decides}
use Rattle.pg_logic.specs.Declarations.{Name}
use Rattle.pg_gametext.specs.Placed.{Command, world, Placed}
use Rattle.pg_gametext.specs.Before.{with_name, world_named, worlds, current_world, levels_of}
use Rattle.pg_places.specs.Held.{Held, names_of, IsPlaceOf, read_named, its_levels}
use Rattle.pg_places.specs.There.{There, Stands, IsCurrent, AreWorlds}
use Rattle.pg_places.proofs.Lists.{test_refl}

-- ---- no name twice

abbrev AreDistinct : List Name → Type 0
AreDistinct [] = Unit {0}
AreDistinct (x ∷ xs) = (list_any (bytes_eq x) xs ≡ false) × AreDistinct xs

turned : (x y : Name) → bytes_eq x y ≡ false → bytes_eq y x ≡ false
turned x y no_one = at_test (bytes_eq y x) refl
  where
    at_test : (b : Bool) → bytes_eq y x ≡ b → b ≡ false
    at_test false e = refl
    at_test true e = absurd (let same : bytes_eq x y ≡ true = (bytes_eq-Decides x y).1 (sym ((bytes_eq-Decides y x).0 e)) in cc)

neither : (a b : Bool) → (a || b) ≡ false → (a ≡ false) × (b ≡ false)
neither false b e = (refl, e)
neither true b e = absurd (cc)

or_false : (a b : Bool) → a ≡ false → b ≡ false → (a || b) ≡ false
or_false false b e f = f
or_false true b e f = absurd (cc)

distinct_last : (xs : List Name) (x : Name) → AreDistinct xs → list_any (bytes_eq x) xs ≡ false → AreDistinct (xs ++ x ∷ [])
distinct_last [] x d none = (refl, tt)
distinct_last (y ∷ ys) x d none =
    let both = neither (bytes_eq x y) (list_any (bytes_eq x) ys) none in (
      list_any-append (bytes_eq y) ys (x ∷ []) ∙ or_false (list_any (bytes_eq y) ys) (bytes_eq y x || false) d.0 (or_false (bytes_eq y x) false (turned x y both.0) refl),
      distinct_last ys x d.1 both.1,
    )

distinct_with : (o : Option Name) (xs : List Name) → AreDistinct xs → AreDistinct (with_name o xs)
distinct_with None xs d = d
distinct_with (Some x) xs d =
    elim (list_any (bytes_eq x) xs) as (λ b. list_any (bytes_eq x) xs ≡ b → AreDistinct (if b then xs else xs ++ x ∷ [])) [
      | true ↦ λ e. d
      | false ↦ λ e. distinct_last xs x d e
    ] refl

distinct_at : (at end : ℕ) (command : Command) (before : List Placed) → AreDistinct (worlds before) → AreDistinct (worlds (record { at = at; command = command; end = end } ∷ before))
distinct_at at end (world t) before d = distinct_with (world_named t.value) (worlds before) d
distinct_at at end _ before d = d

distinct_worlds : (before : List Placed) → AreDistinct (worlds before)
distinct_worlds [] = tt
distinct_worlds (c ∷ before) = distinct_at c.at c.end c.command before (distinct_worlds before)

-- ---- levels by world

past_first : {X : Type 0} (read : Held → X) (none : X) (w : Held) (ws : List Held) (xs : List Name) → list_any (bytes_eq w.name) xs ≡ false →
    map (λ x. read_named read none x (w ∷ ws)) xs ≡ map (λ x. read_named read none x ws) xs
past_first read none w ws [] e = refl
past_first {X = X} read none w ws (x ∷ xs) e =
    let both = neither (bytes_eq w.name x) (list_any (bytes_eq w.name) xs) e in
    ap (λ (b : Bool). (if b then read w else read_named read none x ws) ∷ map (λ y. read_named read none y (w ∷ ws)) xs) (turned w.name x both.0)
    ∙ ap (λ (ys : List X). read_named read none x ws ∷ ys) (past_first read none w ws xs both.1)

levels_each : (ws : List Held) → AreDistinct (names_of ws) → map its_levels ws ≡ map (λ x. read_named its_levels 0 x ws) (names_of ws)
levels_each [] d = refl
levels_each (w ∷ ws) d =
    ap (λ (ns : List ℕ). w.levels ∷ ns) (levels_each ws d.1 ∙ sym (past_first its_levels 0 w ws (names_of ws) d.0))
    ∙ ap (λ (b : Bool). (if b then w.levels else read_named its_levels 0 w.name ws) ∷ map (λ x. read_named its_levels 0 x (w ∷ ws)) (names_of ws)) (sym (test_refl w.name))

map_alike : (f g : Name → ℕ) → ((x : Name) → f x ≡ g x) → (xs : List Name) → map f xs ≡ map g xs
map_alike f g same [] = refl
map_alike f g same (x ∷ xs) = ap (λ (n : ℕ). n ∷ map f xs) (same x) ∙ ap (λ (ns : List ℕ). g x ∷ ns) (map_alike f g same xs)

pub worlds-told : (t : There) (before : List Placed) → Stands t before → AreWorlds t.worlds before
worlds-told t before s = record {
  names = s.names;
  levels =
      levels_each t.worlds (subst AreDistinct (sym s.names) (distinct_worlds before))
      ∙ map_alike (λ x. read_named its_levels 0 x t.worlds) (λ x. levels_of (Some x) before) s.levels (names_of t.worlds)
      ∙ ap (map (λ x. levels_of (Some x) before)) s.names;
}

-- ---- the place of the current world

at_first : (x : Name) (i : ℕ) (ws : List Held) → IsPlaceOf x i ws → (position_or_len (bytes_eq x) (names_of ws) ≡ i) × (i < length (names_of ws))
at_first x i [] p = absurd p
at_first x zero (w ∷ ws) p = (ap (λ (b : Bool). cond (not b) (1 + position_or_len (bytes_eq x) (names_of ws)) 0) p, omega arith)
at_first x (suc i) (w ∷ ws) p =
    let rest = at_first x i ws p.1 in
    let count : 1 + position_or_len (bytes_eq x) (names_of ws) ≡ suc i = omega (arith, rest.0) in
    (ap (λ (b : Bool). cond (not b) (1 + position_or_len (bytes_eq x) (names_of ws)) 0) p.0 ∙ count, omega (arith, rest.1))

less_test : (a b : ℕ) → a < b → nat_lt a b ≡ true
less_test a b l = grind (arith, nat_tests)

place_is : (x : Name) (i : ℕ) (ws : List Held) → IsPlaceOf x i ws → position (bytes_eq x) (names_of ws) ≡ Some i
place_is x i ws p =
    let first = at_first x i ws p in
    ap (λ (k : ℕ). cond (nat_lt k (length (names_of ws))) (Some k) None) first.0
    ∙ ap (λ (b : Bool). cond b (Some i) None) (less_test i (length (names_of ws)) first.1)

current_is : (o : Option ℕ) (n : Option Name) (ws : List Held) → IsCurrent ws o n → o ≡ option_and_then (λ x. position (bytes_eq x) (names_of ws)) n
current_is None None ws p = refl
current_is None (Some x) ws p = absurd p
current_is (Some i) None ws p = absurd p
current_is (Some i) (Some x) ws p = sym (place_is x i ws p)

pub current-told : (t : There) (before : List Placed) → Stands t before → t.current ≡ option_and_then (λ x. position (bytes_eq x) (worlds before)) (current_world before)
current-told t before s =
    current_is t.current (current_world before) t.worlds s.current
    ∙ ap (λ (xs : List Name). option_and_then (λ x. position (bytes_eq x) xs) (current_world before)) s.names
