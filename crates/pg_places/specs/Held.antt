-- Texts and worlds, as plain data.
use Rattle.std.specs.Prelude.{◌≡◌, ℕ, zero, suc, ◌+◌, Bool, true, false, ◌||◌, List, [], ◌∷◌, ◌++◌, Option, Some, None, if◌then◌else◌}
use Rattle.std.specs.Str.{bytes_eq}
use Rattle.std.specs.Option.{option_or}
use Rattle.pg_logic.specs.Declarations.{Name}
use Rattle.pg_gametext.specs.Placed.{Which, Title, Introduction, Conclusion}
use Rattle.pg_places.specs.declared.texts.Texts.{Texts}

-- ---- texts

abbrev pub place_of : Which → Texts → Option ℕ
place_of Title t = t.title
place_of Introduction t = t.introduction
place_of Conclusion t = t.conclusion

-- one of them at this place, where it stood nowhere before
abbrev pub with_place : Which → ℕ → Texts → Texts
with_place Title at t = record { title = option_or t.title (Some at); introduction = t.introduction; conclusion = t.conclusion }
with_place Introduction at t = record { title = t.title; introduction = option_or t.introduction (Some at); conclusion = t.conclusion }
with_place Conclusion at t = record { title = t.title; introduction = t.introduction; conclusion = option_or t.conclusion (Some at) }

abbrev pub no_texts : Texts
no_texts = record { title = None; introduction = None; conclusion = None }

-- ---- worlds

pub record Held : Type 0 where
  pub name : Name
  pub levels : ℕ
  pub texts : Texts

abbrev pub new_world : Name → Held
new_world x = record { name = x; levels = 0; texts = no_texts }

abbrev pub one_more_level : Held → Held
one_more_level w = record { name = w.name; levels = w.levels + 1; texts = w.texts }

abbrev pub with_text : Which → ℕ → Held → Held
with_text which at w = record { name = w.name; levels = w.levels; texts = with_place which at w.texts }

abbrev pub names_of : List Held → List Name
names_of [] = []
names_of (w ∷ ws) = w.name ∷ names_of ws

-- the first world of a name stands at this place
abbrev pub IsPlaceOf : Name → ℕ → List Held → Type 0
IsPlaceOf x i [] = ⊥
IsPlaceOf x zero (w ∷ ws) = bytes_eq x w.name ≡ true
IsPlaceOf x (suc i) (w ∷ ws) = (bytes_eq x w.name ≡ false) × IsPlaceOf x i ws

-- what is read of the first world of a name, and of the world at a place; this where there is none
abbrev pub read_named : {X : Type 0} → (Held → X) → X → Name → List Held → X
read_named read none x [] = none
read_named read none x (w ∷ ws) = if bytes_eq x w.name then read w else read_named read none x ws

abbrev pub read_at : {X : Type 0} → (Held → X) → X → ℕ → List Held → X
read_at read none i [] = none
read_at read none zero (w ∷ ws) = read w
read_at read none (suc i) (w ∷ ws) = read_at read none i ws

abbrev pub its_levels : Held → ℕ
its_levels w = w.levels

abbrev pub its_texts : Held → Texts
its_texts w = w.texts

-- the worlds with the one at a place changed
abbrev pub changed_at : (Held → Held) → ℕ → List Held → List Held
changed_at change i [] = []
changed_at change zero (w ∷ ws) = change w ∷ ws
changed_at change (suc i) (w ∷ ws) = w ∷ changed_at change i ws

abbrev pub has_world : Name → List Held → Bool
has_world x [] = false
has_world x (w ∷ ws) = bytes_eq x w.name || has_world x ws

-- the worlds with one of this name last, where there is none
abbrev pub with_world : Name → List Held → List Held
with_world x ws = if has_world x ws then ws else ws ++ new_world x ∷ []
