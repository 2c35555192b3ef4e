-- The worlds in memory, as they are seen by place and by name.
use Rattle.std.proofs.Common.{◌≡◌, ◌∙◌, ℕ, zero, suc, ◌+◌, ◌<◌, ◌≤◌, Bool, true, false, ◌||◌, List, [], ◌∷◌, ◌++◌, ◌-◌, length, if◌then◌else◌, refl, sym, ap, subst, arith, string_bytes}
use Rattle.std.specs.Prelude.{slice_index_or, slice_set}
use Rattle.std.specs.Str.{bytes_eq}
use Rattle.pg_logic.specs.Declarations.{Name}
use Rattle.pg_places.specs.declared.texts.Texts.{Texts}
use Rattle.pg_places.specs.declared.world.World.{World}
use Rattle.pg_places.specs.Held.{Held, IsPlaceOf, read_at, changed_at, has_world, new_world, with_world}
use Rattle.pg_places.specs.View.{held, helds}
use Rattle.pg_places.proofs.Lists.{test_refl}

-- ---- by place

pub read-some : {X : Type 0} (read : Held → X) (none : X) (ws : List World) (i : ℕ) (d : World) → i < length ws → read (held (slice_index_or ws i d)) ≡ read_at read none i (helds ws)
read-some read none [] i d l = absurd (omega arith)
read-some read none (w ∷ ws) zero d l = refl
read-some read none (w ∷ ws) (suc i) d l = read-some read none ws i d (omega arith)

pub read-past : {X : Type 0} (read : Held → X) (none : X) (ws : List World) (i : ℕ) → length ws ≤ i → none ≡ read_at read none i (helds ws)
read-past read none [] i l = refl
read-past read none (w ∷ ws) zero l = absurd (omega arith)
read-past read none (w ∷ ws) (suc i) l = read-past read none ws i (omega arith)

pub set-some : (f : Held → Held) (ws : List World) (i : ℕ) (v d : World) → i < length ws → held v ≡ f (held (slice_index_or ws i d)) → helds (slice_set ws i v) ≡ changed_at f i (helds ws)
set-some f [] i v d l e = absurd (omega arith)
set-some f (w ∷ ws) zero v d l e = ap (λ (h : Held). h ∷ helds ws) e
set-some f (w ∷ ws) (suc i) v d l e = ap (λ (hs : List Held). held w ∷ hs) (set-some f ws i v d (omega arith) e)

pub set-past : (f : Held → Held) (ws : List World) (i : ℕ) → length ws ≤ i → helds ws ≡ changed_at f i (helds ws)
set-past f [] i l = refl
set-past f (w ∷ ws) zero l = absurd (omega arith)
set-past f (w ∷ ws) (suc i) l = ap (λ (hs : List Held). held w ∷ hs) (set-past f ws i (omega arith))

-- ---- by name

abbrev pub is_called : Name → World → Bool
is_called x w = bytes_eq x (string_bytes w.name)

pub place-at : (x : Name) (ws : List World) (i : ℕ) (d : World) → i < length ws → ((k : ℕ) (e : World) → k < i → is_called x (slice_index_or ws k e) ≡ false) →
    is_called x (slice_index_or ws i d) ≡ true → IsPlaceOf x i (helds ws)
place-at x [] i d l before here = absurd (omega arith)
place-at x (w ∷ ws) zero d l before here = here
place-at x (w ∷ ws) (suc i) d l before here =
    (before 0 d (omega arith), place-at x ws i d (omega arith) (λ k e less. before (suc k) e (omega arith)) here)

pub none-called : (x : Name) (ws : List World) → ((k : ℕ) (e : World) → k < length ws → is_called x (slice_index_or ws k e) ≡ false) → has_world x (helds ws) ≡ false
none-called x [] all = refl
none-called x (w ∷ ws) all = rw (all 0 w (omega arith)) (none-called x ws (λ k e less. all (suc k) e (omega arith)))

-- ---- one more

-- a world with these parts
abbrev pub hold : Name → ℕ → Texts → Held
hold x n ts = record { name = x; levels = n; texts = ts }

pub helds-push : (ws : List World) (w : World) → helds (ws ++ w ∷ []) ≡ helds ws ++ held w ∷ []
helds-push [] w = refl
helds-push (v ∷ ws) w = ap (λ (hs : List Held). held v ∷ hs) (helds-push ws w)

-- a place that is found is that of a world
pub has-place : (x : Name) (i : ℕ) (hs : List Held) → IsPlaceOf x i hs → has_world x hs ≡ true
has-place x i [] p = absurd p
has-place x zero (h ∷ hs) p = rw p refl
has-place x (suc i) (h ∷ hs) p = rw p.0 (has-place x i hs p.1)

pub place-last : (x : Name) (hs : List Held) (h : Held) → has_world x hs ≡ false → h.name ≡ x → IsPlaceOf x (length hs) (hs ++ h ∷ [])
place-last x [] h none e = rw e (test_refl x)
place-last x (k ∷ hs) h none e = at_test (bytes_eq x k.name) refl none (place-last x hs h)
  where
    at_test : (b : Bool) → bytes_eq x k.name ≡ b → (b || has_world x hs) ≡ false → (has_world x hs ≡ false → h.name ≡ x → IsPlaceOf x (length hs) (hs ++ h ∷ [])) →
        (bytes_eq x k.name ≡ false) × IsPlaceOf x (length hs) (hs ++ h ∷ [])
    at_test true t n last = absurd (cc)
    at_test false t n last = (t, last n e)

pub length-helds : (ws : List World) → length (helds ws) ≡ length ws
length-helds [] = refl
length-helds (w ∷ ws) = ap suc (length-helds ws)

pub seen-place : (x y : Name) (ws vs : List World) (i : ℕ) → x ≡ y → ws ≡ vs → IsPlaceOf x i (helds ws) → IsPlaceOf y i (helds vs)
seen-place x y ws vs i xs same p = subst (λ (us : List World). IsPlaceOf y i (helds us)) same (subst (λ (z : Name). IsPlaceOf z i (helds ws)) xs p)

-- where there is a world of the name, none is added
pub with-known : (x : Name) (i : ℕ) (hs : List Held) → IsPlaceOf x i hs → hs ≡ with_world x hs
with-known x i hs p = sym (ap (λ (b : Bool). if b then hs else hs ++ new_world x ∷ []) (has-place x i hs p))

-- where there is none, the one that is added is the first
pub place-pushed : (x y : Name) (ws us vs : List World) (w : World) (n : ℕ) → x ≡ y → us ≡ ws → has_world x (helds us) ≡ false → vs ≡ ws ++ w ∷ [] → string_bytes w.name ≡ y →
    n ≡ length us + 1 → IsPlaceOf y (n - 1) (helds vs)
place-pushed x y ws us vs w n xs same none pushed called ns =
    let hs : helds vs ≡ helds ws ++ held w ∷ [] = ap helds pushed ∙ helds-push ws w in
    let count : n - 1 ≡ length (helds ws) = omega (arith, ns, ap length same, length-helds ws) in
    let no_world : has_world y (helds ws) ≡ false = sym (ap (λ (z : Name). has_world z (helds us)) xs ∙ ap (λ (zs : List World). has_world y (helds zs)) same) ∙ none in
    subst (λ k. IsPlaceOf y k (helds vs)) (sym count) (subst (λ (ks : List Held). IsPlaceOf y (length (helds ws)) ks) (sym hs) (place-last y (helds ws) (held w) no_world called))

-- how many worlds are seen
pub count-seen : (ws us : List World) (n m : ℕ) → us ≡ ws → length us ≡ m → n ≡ m → n ≡ length (helds ws)
count-seen ws us n m same ls ns = ns ∙ sym ls ∙ ap length same ∙ sym (length-helds ws)
