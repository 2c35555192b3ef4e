-- The faults of a command, told from what is kept.
use Rattle.std.proofs.Common.{◌≡◌, ◌∙◌, ℕ, suc, ◌+◌, ◌≤◌, ◌≢◌, ◌==◌, Bool, true, false, not, ◌||◌, List, [], ◌∷◌, ◌++◌, length, refl, sym, ap, subst, arith, Option, Some, None, if◌then◌else◌, add-one}
use Rattle.std.specs.Str.{bytes_eq}
use Rattle.std.specs.List.{list_any}
use Rattle.std.specs.Option.{is_some}
use Rattle.std.specs.Prelude.{MatchOption}
use Rattle.std.proofs.lemmas.Bool.Decides.{nat_tests}
use Rattle.pg_base.specs.Tokens.{Word}
use Rattle.pg_logic.specs.Declarations.{Name}
use Rattle.pg_gametext.specs.Faults.{Fault, fault, least, fault_if, one_more, level_limit, world_limit, Worlds, Levels, Expected, Limit}
use Rattle.pg_gametext.specs.Placed.{Which, Command, level, Placed}
use Rattle.pg_gametext.specs.Before.{text_of, is_world_name, worlds, current_world, lacks_statement, level_count, levels_of, holder, world_holder, of_level, counts, text_place}
use Rattle.pg_gametext.specs.Checks.{clash_fault, out_of_place, number_faults, has_no_world, level_faults, world_faults_of, text_faults}
use Rattle.pg_faults.specs.View.{sooner}
use Rattle.pg_faults.specs.Laws.{LeastLaw}
use Rattle.pg_places.specs.Held.{Held, place_of, no_texts, names_of, IsPlaceOf, read_named, its_levels, its_texts, has_world}
use Rattle.pg_places.specs.There.{There, Stands, IsCurrent, levels_at, levels_here, HasRoom, texts_at, texts_here}
use Rattle.pg_places.specs.declared.texts.Texts.{Texts}
use Rattle.pg_places.proofs.Lists.{has-names, read-place}
use Rattle.pg_places.proofs.Seen.{has-place}

-- ---- levels

none_at : (at end : ℕ) (command : Command) (before : List Placed) → levels_of None before ≡ 0 → levels_of None (record { at = at; command = command; end = end } ∷ before) ≡ 0
none_at at end (level t) before e = e
none_at at end _ before e = e

no_levels : (before : List Placed) → levels_of None before ≡ 0
no_levels [] = refl
no_levels (c ∷ before) = none_at c.at c.end c.command before (no_levels before)

levels_now : (o : Option ℕ) (n : Option Name) (ws : List Held) (before : List Placed) → IsCurrent ws o n → ((x : Name) → read_named its_levels 0 x ws ≡ levels_of (Some x) before) →
    levels_at o ws ≡ levels_of n before
levels_now None None ws before p all = sym (no_levels before)
levels_now None (Some x) ws before p all = absurd p
levels_now (Some i) None ws before p all = absurd p
levels_now (Some i) (Some x) ws before p all = sym (read-place its_levels 0 x i ws p) ∙ all x

pub levels-told : (t : There) (before : List Placed) → Stands t before → levels_here t ≡ levels_of (current_world before) before
levels-told t before s = levels_now t.current (current_world before) t.worlds before s.current s.levels

few_now : (o : Option ℕ) (n : Option Name) (ws : List Held) → IsCurrent ws o n → ((x : Name) → read_named its_levels 0 x ws ≤ level_limit) → levels_at o ws ≤ level_limit
few_now None n ws p few = omega arith
few_now (Some i) None ws p few = absurd p
few_now (Some i) (Some x) ws p few = subst (λ k. k ≤ level_limit) (read-place its_levels 0 x i ws p) (few x)

no_world_now : (o : Option ℕ) (n : Option Name) (ws : List Held) → IsCurrent ws o n → not (is_some o) ≡ has_no_world n
no_world_now None None ws p = refl
no_world_now None (Some x) ws p = absurd p
no_world_now (Some i) None ws p = absurd p
no_world_now (Some i) (Some x) ws p = refl

pub level-told : LeastLaw → (t : There) (before : List Placed) → Stands t before → (at n : ℕ) (number : Option Word) (a b c : Option Fault) → n ≡ levels_here t →
    a ≡ least (out_of_place (t.lacks_statement || not (is_some t.current)) at) → b ≡ least (one_more Levels level_limit n at) → c ≡ least (number_faults (n + 1) number) →
    sooner a (sooner b c) ≡ least (level_faults before at number)
level-told law t before s at n number a b c ns xs ys zs =
    let m : ℕ = levels_of (current_world before) before in
    let e : n ≡ m = ns ∙ levels-told t before s in
    ap (λ (f : Option Fault). sooner f (sooner b c))
    (xs
    ∙ ap (λ (q : Bool). least (out_of_place (q || not (is_some t.current)) at)) s.lacks
    ∙ ap (λ (q : Bool). least (out_of_place (lacks_statement before || q) at)) (no_world_now t.current (current_world before) t.worlds s.current))
    ∙ ap (λ (f : Option Fault). sooner (least (out_of_place (lacks_statement before || has_no_world (current_world before)) at)) (sooner f c))
    (ys ∙ ap (λ (k : ℕ). least (one_more Levels level_limit k at)) e)
    ∙ ap (λ (f : Option Fault). sooner (least (out_of_place (lacks_statement before || has_no_world (current_world before)) at)) (sooner (least (one_more Levels level_limit m at)) f))
    (zs ∙ ap (λ (k : ℕ). least (number_faults k number)) (add-one n ∙ ap suc e))
    ∙ ap (sooner (least (out_of_place (lacks_statement before || has_no_world (current_world before)) at))) (sym (law (one_more Levels level_limit m at) (number_faults (suc m) number)))
    ∙ sym (law (out_of_place (lacks_statement before || has_no_world (current_world before)) at) (one_more Levels level_limit m at ++ number_faults (suc m) number))

none_of_two : (a b : Option Fault) → sooner a b ≡ None → (a ≡ None) × (b ≡ None)
none_of_two None b e = (refl, e)
none_of_two (Some f) b e = absurd (cc)

not_full : (n m at : ℕ) → least (one_more Levels m n at) ≡ None → n ≢ m
not_full n m at e same = full (n == m) (let t : (n == m) ≡ true = grind (arith, nat_tests) in t) e
  where
    full : (b : Bool) → b ≡ true → least (fault_if b at (Limit Levels (suc m))) ≡ None → ⊥
    full true t none = cc
    full false t none = cc

pub room-told : (t : There) (before : List Placed) → Stands t before → (at n : ℕ) (a b c : Option Fault) → n ≡ levels_here t → b ≡ least (one_more Levels level_limit n at) →
    sooner a (sooner b c) ≡ None → HasRoom t
room-told t before s at n a b c ns bs none =
    let few : levels_here t ≤ level_limit = few_now t.current (current_world before) t.worlds s.current s.few in
    let rest = (none_of_two a (sooner b c) none).1 in
    let b_none : b ≡ None = (none_of_two b c rest).0 in
    let differ : n ≢ level_limit = not_full n level_limit at (sym bs ∙ b_none) in
    omega (arith, few, differ, ns)

-- ---- texts

at_holder : (w : Which) (t : There) (before : List Placed) → Stands t before → (b : Bool) (o : Option ℕ) (n : Option Name) → IsCurrent t.worlds o n →
    place_of w (if b then t.level else texts_at o t) ≡ text_place w (if b then of_level (level_count before) else world_holder n) before
at_holder w t before s true o n p = s.level_texts w
at_holder w t before s false None None p = s.game_texts w
at_holder w t before s false None (Some x) p = absurd p
at_holder w t before s false (Some i) None p = absurd p
at_holder w t before s false (Some i) (Some x) p = ap (place_of w) (sym (read-place its_texts no_texts x i t.worlds p)) ∙ s.world_texts w x

pub place-told : (w : Which) (t : There) (before : List Placed) → Stands t before → place_of w (texts_here t) ≡ text_place w (holder before) before
place-told w t before s =
    at_holder w t before s t.in_level t.current (current_world before) s.current
    ∙ ap (λ (b : Bool). text_place w (if b then of_level (level_count before) else world_holder (current_world before)) before) s.in_level

pub text-told : (w : Which) (t : There) (before : List Placed) → Stands t before → (at : ℕ) (b : Bool) (o : Option ℕ) (ts : Texts) → not b ≡ counts w (holder before) → b ≡ false →
    o ≡ place_of w ts → ts ≡ texts_here t → least (clash_fault at o) ≡ least (text_faults before at w)
text-told w t before s at b o ts counted passes os tss =
    let there : o ≡ text_place w (holder before) before = os ∙ ap (place_of w) tss ∙ place-told w t before s in
    let yes : counts w (holder before) ≡ true = sym counted ∙ ap not passes in
    ap (λ (p : Option ℕ). least (clash_fault at p)) there
    ∙ sym (ap (λ (c : Bool). least (if c then clash_fault at (text_place w (holder before) before) else [])) yes)

-- ---- worlds

pub known-told : (x : Name) (t : There) (before : List Placed) → Stands t before → has_world x t.worlds ≡ list_any (bytes_eq x) (worlds before)
known-told x t before s = sym (has-names x t.worlds) ∙ ap (list_any (bytes_eq x)) s.names

length_names : (ws : List Held) → length (names_of ws) ≡ length ws
length_names [] = refl
length_names (w ∷ ws) = ap suc (length_names ws)

pub has-some : (x : Name) (ws : List Held) (o : Option ℕ) → MatchOption o (has_world x ws ≡ false) (λ i. IsPlaceOf x i ws) → is_some o ≡ has_world x ws
has-some x ws None e = sym e
has-some x ws (Some i) p = sym (has-place x i ws p)

pub no_name-told : (t : Word) (x : Name) (before : List Placed) (at : ℕ) → x ≡ text_of t → is_world_name x ≡ false → least (fault t.at Expected ∷ []) ≡ least (world_faults_of before at t)
no_name-told t x before at xs e =
    sym
    (ap
    (λ (b : Bool). least (if b then (if list_any (bytes_eq (text_of t)) (worlds before) then [] else one_more Worlds world_limit (length (worlds before)) at) else fault t.at Expected ∷ []))
    (ap is_world_name (sym xs) ∙ e))

name_faults : (t : Word) (x : Name) (before : List Placed) (at : ℕ) → x ≡ text_of t → is_world_name x ≡ true →
    world_faults_of before at t ≡ (if list_any (bytes_eq x) (worlds before) then [] else one_more Worlds world_limit (length (worlds before)) at)
name_faults t x before at xs e =
    ap
    (λ (b : Bool). if b then (if list_any (bytes_eq (text_of t)) (worlds before) then [] else one_more Worlds world_limit (length (worlds before)) at) else fault t.at Expected ∷ [])
    (ap is_world_name (sym xs) ∙ e)
    ∙ ap (λ (y : Name). if list_any (bytes_eq y) (worlds before) then [] else one_more Worlds world_limit (length (worlds before)) at) (sym xs)

pub known_name-told : (t : Word) (x : Name) (k : There) (before : List Placed) → Stands k before → (at : ℕ) → x ≡ text_of t → is_world_name x ≡ true → has_world x k.worlds ≡ true →
    None ≡ least (world_faults_of before at t)
known_name-told t x k before s at xs e has =
    sym
    (ap least (name_faults t x before at xs e)
    ∙ ap (λ (b : Bool). least (if b then [] else one_more Worlds world_limit (length (worlds before)) at)) (sym (known-told x k before s) ∙ has))

pub new_name-told : (t : Word) (x : Name) (k : There) (before : List Placed) → Stands k before → (at n : ℕ) → x ≡ text_of t → is_world_name x ≡ true → has_world x k.worlds ≡ false →
    n ≡ length k.worlds → least (one_more Worlds world_limit n at) ≡ least (world_faults_of before at t)
new_name-told t x k before s at n xs e has ns =
    ap (λ (m : ℕ). least (one_more Worlds world_limit m at)) (ns ∙ sym (length_names k.worlds) ∙ ap length s.names)
    ∙ sym
    (ap least (name_faults t x before at xs e)
    ∙ ap (λ (b : Bool). least (if b then [] else one_more Worlds world_limit (length (worlds before)) at)) (sym (known-told x k before s) ∙ has))
