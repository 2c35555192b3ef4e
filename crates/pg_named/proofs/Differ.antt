-- Names that differ from others and from those before them: of words in order of place, those behind a fault count for nothing.
use Rattle.std.proofs.Common.{◌≡◌, ◌∙◌, ℕ, zero, suc, length, drop, take, get_or, ◌+◌, ◌<◌, Bool, true, false, List, [], ◌∷◌, ◌++◌, Option, None, Some, if◌then◌else◌, refl, ap, sym, arith, append_assoc, map, cond, nat_lt, subst}
use Rattle.std.proofs.lemmas.Bool.Decides.{nat_tests}
use Rattle.std.proofs.lemmas.List.{map-append}
use Rattle.std.specs.Prelude.{flat_map}
use Rattle.pg_base.specs.declared.token.Token.{Token}
use Rattle.pg_base.specs.Tokens.{Word, word}
use Rattle.pg_script.specs.View.{words}
use Rattle.pg_faults.specs.View.{sooner}
use Rattle.pg_faults.proofs.Least.{least-law}
use Rattle.pg_gametext.specs.Faults.{Fault, fault, Duplicate, rank, earlier, comes_before, least, LimitName, Limit, one_over}
use Rattle.pg_gametext.specs.Before.{Given, first_place, bound_name}
use Rattle.pg_gametext.specs.Checks.{clash_fault, differing_faults}
use Rattle.pg_named.specs.Bound.{Rises, RisesFrom, stands_behind, up_to, over, place_of}

-- ---- what stands behind a place

abbrev pub Behind : ℕ → Option Fault → Type 0
Behind at None = Unit {0}
Behind at (Some f) = at < f.at

not_before : (f h : Fault) → rank f.kind < 32 → f.at < h.at → comes_before h f ≡ false
not_before f h r lt = grind (arith, nat_tests)

before : (f h : Fault) → rank f.kind < 32 → f.at < h.at → comes_before f h ≡ true
before f h r lt = grind (arith, nat_tests)

-- a fault before all others is the first
pub front : (f : Fault) (o : Option Fault) → rank f.kind < 32 → Behind f.at o → earlier f o ≡ f
front f None r b = refl
front f (Some h) r b = ap (λ (t : Bool). cond t h f) (not_before f h r b)

-- a fault before all others is the first, on either side
pub back : (f : Fault) (o : Option Fault) → rank f.kind < 32 → Behind f.at o → sooner o (Some f) ≡ Some f
back f None r b = refl
back f (Some h) r b = ap (λ (t : Bool). Some (cond t f h)) (before f h r b)

assoc_lists : (A B C : List Fault) → sooner (sooner (least A) (least B)) (least C) ≡ sooner (least A) (sooner (least B) (least C))
assoc_lists A B C =
    ap (λ o. sooner o (least C)) (sym (least-law A B)) ∙ sym (least-law (A ++ B) C) ∙ ap least (append_assoc A B C) ∙ least-law A (B ++ C) ∙ ap (sooner (least A)) (least-law B C)

pub sooner_assoc : (a b c : Option Fault) → sooner (sooner a b) c ≡ sooner a (sooner b c)
sooner_assoc None b c = refl
sooner_assoc (Some f) None c = refl
sooner_assoc (Some f) (Some g) None = refl
sooner_assoc (Some f) (Some g) (Some h) = assoc_lists (f ∷ []) (g ∷ []) (h ∷ [])

-- ---- words that rise

abbrev pub bound : List Word → List Given
bound ws = map bound_name ws

-- the names of words that rise have their faults behind the place before them
choice_behind : (at : ℕ) (f h : Fault) (b : Bool) → at < f.at → at < h.at → at < (cond b h f).at
choice_behind at f h true l m = m
choice_behind at f h false l m = l

earlier_behind : (at : ℕ) (f : Fault) (o : Option Fault) → at < f.at → Behind at o → at < (earlier f o).at
earlier_behind at f None l b = l
earlier_behind at f (Some h) l b = choice_behind at f h (comes_before h f) l b

clash_behind : (at place : ℕ) (o : Option ℕ) (fs : List Fault) → at < place → Behind at (least fs) → Behind at (least (clash_fault place o ++ fs))
clash_behind at place None fs l b = b
clash_behind at place (Some first) fs l b = earlier_behind at (fault place (Duplicate first)) (least fs) l b

pub lower : (at place : ℕ) (ws : List Word) → at < place → RisesFrom place ws → RisesFrom at ws
lower at place [] l r = tt
lower at place (w ∷ ws) l r = (omega (arith, l, r.0), r.1)

pub differing_behind : (at : ℕ) (taken : List Given) (ws : List Word) → RisesFrom at ws → Behind at (least (differing_faults taken (bound ws)))
differing_behind at taken [] r = tt
differing_behind at taken (w ∷ ws) r =
    clash_behind at w.at (first_place w.text taken) (differing_faults (bound_name w ∷ taken) (bound ws)) r.0 (differing_behind at (bound_name w ∷ taken) ws (lower at w.at ws r.0 r.1))

-- ---- words behind a fault

none_up_to : (at : ℕ) (ws : List Word) → RisesFrom at ws → up_to (Some at) ws ≡ []
none_up_to at [] r = refl
none_up_to at (w ∷ ws) r = ap (λ (t : Bool). cond t (up_to (Some at) ws) (w ∷ up_to (Some at) ws)) (is_behind at w.at r.0) ∙ none_up_to at ws (lower at w.at ws r.0 r.1)
  where
    is_behind : (a b : ℕ) → a < b → nat_lt a b ≡ true
    is_behind a b lt = grind (arith, nat_tests)

pub rises : (at : ℕ) (ws : List Word) → RisesFrom at ws → Rises ws
rises at [] o = tt
rises at (w ∷ ws) o = o.1

is_above : (a b : ℕ) → nat_lt a b ≡ true → a < b
is_above a b e = grind (arith, nat_tests)

-- with a fault at a place the words behind it count for nothing
pub cut : (taken : List Given) (ws : List Word) (f : Fault) → rank f.kind < 32 → Rises ws
    → sooner (least (differing_faults taken (bound ws))) (Some f) ≡ sooner (least (differing_faults taken (bound (up_to (Some f.at) ws)))) (Some f)
cut taken [] f r o = refl
cut taken (w ∷ ws) f r o = cases (nat_lt f.at w.at) refl (cut (bound_name w ∷ taken) ws f r (rises w.at ws o))
  where
    cases : (t : Bool) → nat_lt f.at w.at ≡ t
        → sooner (least (differing_faults (bound_name w ∷ taken) (bound ws))) (Some f) ≡ sooner (least (differing_faults (bound_name w ∷ taken) (bound (up_to (Some f.at) ws)))) (Some f)
        → sooner (least (differing_faults taken (bound (w ∷ ws)))) (Some f) ≡ sooner (least (differing_faults taken (bound (cond t (up_to (Some f.at) ws) (w ∷ up_to (Some f.at) ws))))) (Some f)
    cases true e more =
        back f (least (differing_faults taken (bound (w ∷ ws)))) r (differing_behind f.at taken (w ∷ ws) (is_above f.at w.at e, o))
        ∙ sym (ap (λ us. sooner (least (differing_faults taken (bound us))) (Some f)) (none_up_to f.at ws (lower f.at w.at ws (is_above f.at w.at e) o)))
    cases false e ih =
        let c = clash_fault w.at (first_place w.text taken) in
        let more = bound_name w ∷ taken in
        let low = up_to (Some f.at) ws in
        ap (λ x. sooner x (Some f)) (least-law c (differing_faults more (bound ws)))
        ∙ sooner_assoc (least c) (least (differing_faults more (bound ws))) (Some f)
        ∙ ap (sooner (least c)) ih
        ∙ sym (sooner_assoc (least c) (least (differing_faults more (bound low))) (Some f))
        ∙ sym (ap (λ x. sooner x (Some f)) (least-law c (differing_faults more (bound low))))

-- ---- one name after the other

over_last : (taken xs : List Given) (g : Given) → over taken (xs ++ g ∷ []) ≡ g ∷ over taken xs
over_last taken [] g = refl
over_last taken (x ∷ xs) g = over_last (x ∷ taken) xs g

-- a name that clashes is the first fault
pub hit : (taken : List Given) (w : Word) (ws : List Word) (f : Fault) → RisesFrom w.at ws → least (clash_fault w.at (first_place w.text taken)) ≡ Some f
    → least (differing_faults taken (bound (w ∷ ws))) ≡ Some f
hit taken w ws f o is = cases (first_place w.text taken) is
  where
    cases : (place : Option ℕ) → least (clash_fault w.at place) ≡ Some f → least (clash_fault w.at place ++ differing_faults (bound_name w ∷ taken) (bound ws)) ≡ Some f
    cases None e = cc
    cases (Some first) e =
        ap Some (front (fault w.at (Duplicate first)) (least (differing_faults (bound_name w ∷ taken) (bound ws))) (omega arith) (differing_behind w.at (bound_name w ∷ taken) ws o)) ∙ e

-- one that does not is passed over
pub miss : (taken : List Given) (w : Word) (ws : List Word) → least (clash_fault w.at (first_place w.text taken)) ≡ None
    → least (differing_faults taken (bound (w ∷ ws))) ≡ least (differing_faults (bound_name w ∷ taken) (bound ws))
miss taken w ws is = cases (first_place w.text taken) is
  where
    cases : (place : Option ℕ) → least (clash_fault w.at place) ≡ None → least (clash_fault w.at place ++ differing_faults (bound_name w ∷ taken) (bound ws)) ≡ least (differing_faults (bound_name w ∷ taken) (bound ws))
    cases None e = refl
    cases (Some first) e = cc

-- ---- a word of a list

at_drop : (ts : List Token) (k : ℕ) (d : Token) → k < length ts → drop k (words ts) ≡ word (get_or ts k d) ∷ drop (suc k) (words ts)
at_drop [] k d lt = absurd (omega (arith, lt))
at_drop (t ∷ ts) zero d lt = refl
at_drop (t ∷ ts) (suc k) d lt = at_drop ts k d (omega (arith, lt))

at_take : (ts : List Token) (k : ℕ) (d : Token) → k < length ts → take (suc k) (words ts) ≡ take k (words ts) ++ word (get_or ts k d) ∷ []
at_take [] k d lt = absurd (omega (arith, lt))
at_take (t ∷ ts) zero d lt = refl
at_take (t ∷ ts) (suc k) d lt = ap (λ ws. word t ∷ ws) (at_take ts k d (omega (arith, lt)))

pub hit_at : (taken : List Given) (ts : List Token) (k : ℕ) (d : Token) (f : Fault) (all : Option Fault) → k < length ts
    → (least (differing_faults (over taken (bound (take k (words ts)))) (bound (drop k (words ts)))) ≡ all) × Rises (drop k (words ts))
    → least (clash_fault (word (get_or ts k d)).at (first_place (word (get_or ts k d)).text (over taken (bound (take k (words ts)))))) ≡ Some f
    → Some f ≡ all
hit_at taken ts k d f all lt inv is =
    let T = over taken (bound (take k (words ts))) in
    sym (ap (λ vs. least (differing_faults T (bound vs))) (at_drop ts k d lt) ∙ hit T (word (get_or ts k d)) (drop (suc k) (words ts)) f (subst Rises (at_drop ts k d lt) inv.1) is)
    ∙ inv.0

pub miss_at : (taken : List Given) (ts : List Token) (k : ℕ) (d : Token) (all : Option Fault) → k < length ts
    → (least (differing_faults (over taken (bound (take k (words ts)))) (bound (drop k (words ts)))) ≡ all) × Rises (drop k (words ts))
    → least (clash_fault (word (get_or ts k d)).at (first_place (word (get_or ts k d)).text (over taken (bound (take k (words ts)))))) ≡ None
    → (least (differing_faults (over taken (bound (take (k + 1) (words ts)))) (bound (drop (k + 1) (words ts)))) ≡ all) × Rises (drop (k + 1) (words ts))
miss_at taken ts k d all lt inv is =
    let w = word (get_or ts k d) in
    let e : suc k ≡ k + 1 = omega arith in
    let T = over taken (bound (take k (words ts))) in
    let behind = drop (suc k) (words ts) in
    let grown : over taken (bound (take (suc k) (words ts))) ≡ bound_name w ∷ T =
    ap (λ vs. over taken (bound vs)) (at_take ts k d lt) ∙ ap (over taken) (map-append bound_name (take k (words ts)) (w ∷ [])) ∙ over_last taken (bound (take k (words ts))) (bound_name w)
    in
    let same : least (differing_faults (over taken (bound (take (suc k) (words ts)))) (bound behind)) ≡ all =
    ap (λ t. least (differing_faults t (bound behind))) grown
    ∙ sym (miss T w behind is)
    ∙ sym (ap (λ vs. least (differing_faults T (bound vs))) (at_drop ts k d lt))
    ∙ inv.0
    in
    let P : ℕ → Type 0 = λ n. (least (differing_faults (over taken (bound (take n (words ts)))) (bound (drop n (words ts)))) ≡ all) × Rises (drop n (words ts)) in
    subst P e (same, rises w.at behind (subst Rises (at_drop ts k d lt) inv.1))

-- ---- with a limit

none_cut : (ws : List Word) → up_to None ws ≡ ws
none_cut [] = refl
none_cut (w ∷ ws) = ap (λ vs. w ∷ vs) (none_cut ws)

up_to_rises_from : (last : Option ℕ) (at : ℕ) (ws : List Word) → RisesFrom at ws → RisesFrom at (up_to last ws)
up_to_rises_from last at [] o = tt
up_to_rises_from last at (w ∷ ws) o = cases (stands_behind last w) (up_to_rises_from last w.at ws o.1)
  where
    cases : (b : Bool) → RisesFrom w.at (up_to last ws) → RisesFrom at (if b then up_to last ws else w ∷ up_to last ws)
    cases true r = lower at w.at (up_to last ws) o.0 r
    cases false r = (o.0, r)

pub up_to_rises : (last : Option ℕ) (ws : List Word) → Rises ws → Rises (up_to last ws)
up_to_rises last [] o = tt
up_to_rises last (w ∷ ws) o = cases (stands_behind last w) (up_to_rises_from last w.at ws o)
  where
    cases : (b : Bool) → RisesFrom w.at (up_to last ws) → Rises (if b then up_to last ws else w ∷ up_to last ws)
    cases true r = rises w.at (up_to last ws) r
    cases false r = r

abbrev pub IsSmall : Option Fault → Type 0
IsSmall None = Unit {0}
IsSmall (Some f) = rank f.kind < 32

pub over_small : (what : LimitName) (limit : ℕ) (ws : List Word) → rank (Limit what (suc limit)) < 32 → IsSmall (least (one_over what limit ws))
over_small what limit ws lt = cases (drop limit ws)
  where
    cases : (vs : List Word) → IsSmall (least (flat_map (λ (w : Word). fault w.at (Limit what (suc limit)) ∷ []) (take 1 vs)))
    cases [] = tt
    cases (v ∷ vs) = lt

-- the first of the faults of words and of a limit, where the words stand no further than the limit's fault
pub limited : (taken : List Given) (ws us : List Word) (over_limit : List Fault) (names over_found found : Option Fault)
    → Rises ws → IsSmall (least over_limit) → us ≡ up_to (place_of over_found) ws → over_found ≡ least over_limit
    → names ≡ least (differing_faults taken (bound us)) → found ≡ sooner names over_found
    → found ≡ least (differing_faults taken (bound ws) ++ over_limit)
limited taken ws us over_limit names over_found found o small us_is over_is names_is is =
    is
    ∙ ap (λ n. sooner n over_found) (names_is ∙ ap (λ vs. least (differing_faults taken (bound vs))) us_is)
    ∙ cases over_found (subst IsSmall (sym over_is) small)
    ∙ ap (sooner (least (differing_faults taken (bound ws)))) over_is
    ∙ sym (least-law (differing_faults taken (bound ws)) over_limit)
  where
    cases : (f : Option Fault) → IsSmall f → sooner (least (differing_faults taken (bound (up_to (place_of f) ws)))) f ≡ sooner (least (differing_faults taken (bound ws))) f
    cases None s = ap (λ vs. sooner (least (differing_faults taken (bound vs))) None) (none_cut ws)
    cases (Some f) s = sym (cut taken ws f s o)

small_choice : (f g : Fault) (b : Bool) → rank f.kind < 32 → rank g.kind < 32 → rank (cond b g f).kind < 32
small_choice f g true m n = n
small_choice f g false m n = m

pub small_sooner : (a b : Option Fault) → IsSmall a → IsSmall b → IsSmall (sooner a b)
small_sooner None b m n = n
small_sooner (Some f) None m n = m
small_sooner (Some f) (Some g) m n = small_choice f g (comes_before g f) m n
