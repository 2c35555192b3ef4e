-- The faults of some commands stand within them: of titles, introductions and conclusions, of levels, of dependencies.
use Rattle.std.proofs.Common.{ℕ, suc, ◌<◌, ◌≤◌, Bool, true, false, not, ◌||◌, List, [], ◌∷◌, refl, arith, Option, Some, None, if◌then◌else◌}
use Rattle.std.specs.Prelude.{◌==◌}
use Rattle.pg_base.specs.Tokens.{Word}
use Rattle.pg_gametext.specs.Commands.{is_text, is_number, is_plain}
use Rattle.pg_gametext.specs.Faults.{Kind, fault, fault_if, stuck_fault, rank, Expected, Duplicate, LevelGap, Limit, Levels}
use Rattle.pg_gametext.specs.Forms.{ended, or_ended, only, one_token, is_arrow, with_link, links_after, links_told}
use Rattle.pg_gametext.specs.Placed.{Which, game, text, level, dependency, passed, no_command}
use Rattle.pg_gametext.specs.Before.{current_world, lacks_statement, levels_of, holder, counts, text_place}
use Rattle.pg_gametext.specs.Checks.{clash_fault, number_faults, digits_value, has_no_world}
use Rattle.pg_gametext.specs.Laws.{Each, IsWithin, AreInside, AreOrdered, StaysWithin}
use Rattle.pg_gametext.proofs.Join.{each_append}

-- something missing stands at the end at most
pub missing_at : (from to at : ℕ) → from ≤ at → at ≤ to → IsWithin from to (fault at Expected)
missing_at from to at l h = record { behind = l; before = h; no_token = omega arith; missing = λ e. refl }

-- any other fault before it
pub stands_at : (from to at : ℕ) (k : Kind) → from ≤ at → at < to → 0 < rank k → IsWithin from to (fault at k)
stands_at from to at k l h r = record { behind = l; before = omega (arith, h); no_token = r; missing = λ e. absurd (omega (arith, e, h)) }

pub maybe : (from to at : ℕ) (k : Kind) (b : Bool) → from ≤ at → at < to → 0 < rank k → Each (IsWithin from to) (fault_if b at k)
maybe from to at k true l h r = (stands_at from to at k l h r, tt)
maybe from to at k false l h r = tt

-- tokens in order stand within
pub wider : (low from to : ℕ) (ws : List Word) → low ≤ from → AreInside from to ws → AreInside low to ws
wider low from to [] l h = tt
wider low from to (w ∷ ws) l h = ((omega (arith, l, h.0.0), h.0.1), wider low from to ws l h.1)

pub inside_of : (from to : ℕ) (ws : List Word) → AreOrdered from to ws → AreInside from to ws
inside_of from to [] h = tt
inside_of from to (w ∷ ws) h = (h.0, wider from w.at to ws (omega (arith, h.0.0)) (inside_of w.at to ws h.2))

pub lower : (low from to : ℕ) (ws : List Word) → low ≤ from → AreOrdered from to ws → AreOrdered low to ws
lower low from to [] l h = tt
lower low from to (w ∷ ws) l h = ((omega (arith, l, h.0.0), h.0.1), h.1, h.2)

-- ---- one token

pub ended_within : (from to : ℕ) (ws : List Word) → AreInside from to ws → Each (IsWithin from to) (stuck_fault (ended ws))
ended_within from to [] h = tt
ended_within from to (w ∷ ws) h = (missing_at from to w.at (omega (arith, h.0.0)) (omega (arith, h.0.1)), tt)

pub or_ended_within : (from to : ℕ) (o : Option ℕ) (rest : List Word) → Each (IsWithin from to) (stuck_fault o) → AreInside from to rest → Each (IsWithin from to) (stuck_fault (or_ended o rest))
or_ended_within from to None rest p h = ended_within from to rest h
or_ended_within from to (Some at) rest p h = p

pub one_within : (good : Word → Bool) (from to : ℕ) (ws : List Word) → from < to → AreInside from to ws → Each (IsWithin from to) (stuck_fault (one_token good to ws).stuck)
one_within good from to [] l h = (missing_at from to to (omega (arith, l)) (omega arith), tt)
one_within good from to (w ∷ ws) l h =
    elim (good w) as (λ b. Each (IsWithin from to) (stuck_fault (only (if b then record { value = Some w; stuck = None; rest = ws } else record { value = None; stuck = Some w.at; rest = [] })).stuck)) [
      | true ↦ ended_within from to ws h.1
      | false ↦ (missing_at from to w.at (omega (arith, h.0.0)) (omega (arith, h.0.1)), tt)
    ]

clash_within : (from to : ℕ) (o : Option ℕ) → from < to → Each (IsWithin from to) (clash_fault from o)
clash_within from to None l = tt
clash_within from to (Some first) l = (stands_at from to from (Duplicate first) (omega arith) l (omega arith), tt)

pub text_within : (which : Which) → StaysWithin (λ end ws. text which (one_token is_text end ws))
text_within which before at end ws l o =
    let h = inside_of at end ws o in
    each_append (IsWithin at end) (stuck_fault (one_token is_text end ws).stuck) (if counts which (holder before) then clash_fault at (text_place which (holder before) before) else []) (one_within is_text at end ws l h)
    (elim (counts which (holder before)) as (λ b. Each (IsWithin at end) (if b then clash_fault at (text_place which (holder before) before) else [])) [ true ↦ clash_within at end _ l | false ↦ tt ])

-- ---- levels

number_within : (from to n : ℕ) (ws : List Word) → from < to → AreInside from to ws → Each (IsWithin from to) (number_faults n (one_token is_number to ws).value)
number_within from to n [] l h = tt
number_within from to n (w ∷ ws) l h =
    elim (is_number w) as (λ b. Each (IsWithin from to) (number_faults n (only (if b then record { value = Some w; stuck = None; rest = ws } else record { value = None; stuck = Some w.at; rest = [] })).value)) [
      | true ↦ maybe from to w.at (LevelGap n) (not (digits_value 0 w.text == n)) (omega (arith, h.0.0)) h.0.1 (omega arith)
      | false ↦ tt
    ]

pub level_within : StaysWithin (λ end ws. level (one_token is_number end ws))
level_within before at end ws l o =
    let h = inside_of at end ws o in
    let n = levels_of (current_world before) before in
    each_append (IsWithin at end) (stuck_fault (one_token is_number end ws).stuck) _ (one_within is_number at end ws l h)
    (each_append (IsWithin at end) (fault_if (lacks_statement before || has_no_world (current_world before)) at Expected) _ (maybe at end at Expected _ (omega arith) l (omega arith))
    (each_append (IsWithin at end) (fault_if (n == 64) at (Limit Levels 65)) _ (maybe at end at (Limit Levels 65) _ (omega arith) l (omega arith)) (number_within at end (suc n) ws l h)))

-- ---- dependencies

links_within : (some : Bool) (from to : ℕ) (a : Word) (ws : List Word) → from < to → AreInside from to ws → Each (IsWithin from to) (stuck_fault (links_after some to a ws).stuck)
links_within true from to a [] l h = tt
links_within false from to a [] l h = (missing_at from to to (omega (arith, l)) (omega arith), tt)
links_within some from to a (s ∷ []) l h =
    elim (is_arrow s) as (λ b. Each (IsWithin from to) (stuck_fault (Some (if b then to else s.at)))) [
      | true ↦ (missing_at from to to (omega (arith, l)) (omega arith), tt)
      | false ↦ (missing_at from to s.at (omega (arith, h.0.0)) (omega (arith, h.0.1)), tt)
    ]
links_within some from to a (s ∷ b ∷ ws) l h =
    elim (is_arrow s) as (λ t. Each (IsWithin from to) (stuck_fault (if t then (if is_plain b then with_link (record { before = a; after = b }) (links_after true to b ws) else record { value = []; stuck = Some b.at }) else record { value = []; stuck = Some s.at }).stuck)) [
      | true ↦
          elim (is_plain b) as (λ t. Each (IsWithin from to) (stuck_fault (if t then with_link (record { before = a; after = b }) (links_after true to b ws) else record { value = []; stuck = Some b.at }).stuck)) [
            | true ↦ links_within true from to b ws l h.1.1
            | false ↦ (missing_at from to b.at (omega (arith, h.1.0.0)) (omega (arith, h.1.0.1)), tt)
          ]
      | false ↦ (missing_at from to s.at (omega (arith, h.0.0)) (omega (arith, h.0.1)), tt)
    ]

told_within : (from to : ℕ) (ws : List Word) → from < to → AreInside from to ws → Each (IsWithin from to) (stuck_fault (links_told to ws).stuck)
told_within from to [] l h = (missing_at from to to (omega (arith, l)) (omega arith), tt)
told_within from to (a ∷ ws) l h =
    elim (is_plain a) as (λ t. Each (IsWithin from to) (stuck_fault (if t then links_after false to a ws else record { value = []; stuck = Some a.at }).stuck)) [
      | true ↦ links_within false from to a ws l h.1
      | false ↦ (missing_at from to a.at (omega (arith, h.0.0)) (omega (arith, h.0.1)), tt)
    ]

pub dependency_within : StaysWithin (λ end ws. dependency (links_told end ws))
dependency_within before at end ws l o =
    let h = inside_of at end ws o in
    each_append (IsWithin at end) (stuck_fault (links_told end ws).stuck) [] (told_within at end ws l h) tt

-- ---- the rest without parts

pub game_within : StaysWithin (λ end ws. game (one_token is_text end ws))
game_within before at end ws l o = each_append (IsWithin at end) (stuck_fault (one_token is_text end ws).stuck) [] (one_within is_text at end ws l (inside_of at end ws o)) tt

pub passed_within : StaysWithin (λ end ws. passed)
passed_within before at end ws l o = tt

pub no_command_within : StaysWithin (λ end ws. no_command)
no_command_within before at end ws l o = (missing_at at end at (omega arith) (omega (arith, l)), tt)
