-- The first world of a name, where the worlds change.
use Rattle.std.proofs.Common.{◌≡◌, ◌∙◌, ℕ, zero, suc, Bool, true, false, ◌||◌, List, [], ◌∷◌, ◌++◌, refl, ap, if◌then◌else◌}
use Rattle.std.specs.Str.{bytes_eq}
use Rattle.std.specs.List.{list_any}
use Rattle.std.proofs.lemmas.Slice.Eq.{bytes_eq-Decides}
use Rattle.pg_logic.specs.Declarations.{Name}
use Rattle.pg_places.specs.Held.{Held, new_world, names_of, IsPlaceOf, read_named, read_at, changed_at, has_world, with_world}

-- ---- names

-- who has a name's name has what it has
pub same_test : (x y z : Name) → bytes_eq x y ≡ true → bytes_eq z x ≡ bytes_eq z y
same_test x y z e = ap (bytes_eq z) ((bytes_eq-Decides x y).0 e)

pub test_refl : (x : Name) → bytes_eq x x ≡ true
test_refl x = (bytes_eq-Decides x x).1 refl

-- a name is had by one of two that differ at most
pub not_both : (x y z : Name) → bytes_eq x z ≡ false → bytes_eq y x ≡ true → bytes_eq y z ≡ false
not_both x y z ne e = ap (λ (v : Name). bytes_eq v z) ((bytes_eq-Decides y x).0 e) ∙ ne

pub has-names : (x : Name) (ws : List Held) → list_any (bytes_eq x) (names_of ws) ≡ has_world x ws
has-names x [] = refl
has-names x (w ∷ ws) = ap (λ (b : Bool). bytes_eq x w.name || b) (has-names x ws)

pub names-append : (ws vs : List Held) → names_of (ws ++ vs) ≡ names_of ws ++ names_of vs
names-append [] vs = refl
names-append (w ∷ ws) vs = ap (λ (t : List Name). w.name ∷ t) (names-append ws vs)

pub names-changed : (f : Held → Held) → ((w : Held) → (f w).name ≡ w.name) → (i : ℕ) (ws : List Held) → names_of (changed_at f i ws) ≡ names_of ws
names-changed f same i [] = refl
names-changed f same zero (w ∷ ws) = ap (λ (x : Name). x ∷ names_of ws) (same w)
names-changed f same (suc i) (w ∷ ws) = ap (λ (t : List Name). w.name ∷ t) (names-changed f same i ws)

-- ---- places

pub place-changed : (f : Held → Held) → ((w : Held) → (f w).name ≡ w.name) → (x : Name) (i j : ℕ) (ws : List Held) → IsPlaceOf x i ws → IsPlaceOf x i (changed_at f j ws)
place-changed f same x i j [] p = p
place-changed f same x zero zero (w ∷ ws) p = rw (same w) p
place-changed f same x zero (suc j) (w ∷ ws) p = p
place-changed f same x (suc i) zero (w ∷ ws) p = (rw (same w) p.0, p.1)
place-changed f same x (suc i) (suc j) (w ∷ ws) p = (p.0, place-changed f same x i j ws p.1)

-- what is read of a name's first world is read at its place
pub read-place : {X : Type 0} (read : Held → X) (none : X) (x : Name) (i : ℕ) (ws : List Held) → IsPlaceOf x i ws → read_named read none x ws ≡ read_at read none i ws
read-place read none x i [] p = absurd p
read-place read none x zero (w ∷ ws) p = rw p refl
read-place read none x (suc i) (w ∷ ws) p = rw p.0 (read-place read none x i ws p.1)

-- ---- changes

-- a part that the change leaves
pub read-left : {X : Type 0} (read : Held → X) (none : X) (f : Held → Held) → ((w : Held) → (f w).name ≡ w.name) → ((w : Held) → read (f w) ≡ read w) →
    (y : Name) (i : ℕ) (ws : List Held) → read_named read none y (changed_at f i ws) ≡ read_named read none y ws
read-left read none f same left y i [] = refl
read-left read none f same left y zero (w ∷ ws) = rw (left w, same w) refl
read-left {X = X} read none f same left y (suc i) (w ∷ ws) = ap (λ (r : X). if bytes_eq y w.name then read w else r) (read-left read none f same left y i ws)

-- a part that it changes, at the name's first world
pub read-changed : {X : Type 0} (read : Held → X) (none : X) (f : Held → Held) (h : X → X) → ((w : Held) → (f w).name ≡ w.name) → ((w : Held) → read (f w) ≡ h (read w)) →
    (x y : Name) (i : ℕ) (ws : List Held) → IsPlaceOf x i ws →
    read_named read none y (changed_at f i ws) ≡ (if bytes_eq y x then h (read_named read none y ws) else read_named read none y ws)
read-changed read none f h same makes x y i [] p = absurd p
read-changed {X = X} read none f h same makes x y zero (w ∷ ws) p = rw (makes w, same w, same_test x w.name y p) (chosen (bytes_eq y w.name))
  where
    chosen : (b : Bool) → (if b then h (read w) else read_named read none y ws) ≡ (if b then h (if b then read w else read_named read none y ws) else (if b then read w else read_named read none y ws))
    chosen true = refl
    chosen false = refl
read-changed {X = X} read none f h same makes x y (suc i) (w ∷ ws) p =
    ap (λ (r : X). if bytes_eq y w.name then read w else r) (read-changed read none f h same makes x y i ws p.1)
    ∙ chosen (bytes_eq y w.name) (bytes_eq y x) (λ e. not_both x y w.name p.0 e)
  where
    chosen : (b c : Bool) → (c ≡ true → b ≡ false) → (if b then read w else (if c then h (read_named read none y ws) else read_named read none y ws))
        ≡ (if c then h (if b then read w else read_named read none y ws) else (if b then read w else read_named read none y ws))
    chosen true true no_two = absurd (let e = no_two refl in cc)
    chosen true false no_two = refl
    chosen false true no_two = refl
    chosen false false no_two = refl

-- ---- one world more

pub read-new : {X : Type 0} (read : Held → X) (none : X) (v : Held) → read v ≡ none → (y : Name) (ws : List Held) → read_named read none y (ws ++ v ∷ []) ≡ read_named read none y ws
read-new read none v e y [] = elim (bytes_eq y v.name) as (λ b. (if b then read v else none) ≡ none) [ true ↦ e | false ↦ refl ]
read-new {X = X} read none v e y (w ∷ ws) = ap (λ (r : X). if bytes_eq y w.name then read w else r) (read-new read none v e y ws)

pub read-with : {X : Type 0} (read : Held → X) (none : X) (x : Name) → read (new_world x) ≡ none → (y : Name) (ws : List Held) → read_named read none y (with_world x ws) ≡ read_named read none y ws
read-with read none x e y ws =
    elim (has_world x ws) as (λ b. read_named read none y (if b then ws else ws ++ new_world x ∷ []) ≡ read_named read none y ws) [
      | true ↦ refl
      | false ↦ read-new read none (new_world x) e y ws
    ]

pub names-with : (x : Name) (ws : List Held) → names_of (with_world x ws) ≡ (if list_any (bytes_eq x) (names_of ws) then names_of ws else names_of ws ++ x ∷ [])
names-with x ws =
    rw (has-names x ws)
    (elim (has_world x ws) as (λ b. names_of (if b then ws else ws ++ new_world x ∷ []) ≡ (if b then names_of ws else names_of ws ++ x ∷ [])) [
      | true ↦ refl
      | false ↦ names-append ws (new_world x ∷ [])
    ])
