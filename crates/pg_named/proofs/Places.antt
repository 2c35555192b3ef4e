-- Where names stand first, whichever way they are gone through.
use Rattle.std.proofs.Common.{◌≡◌, ◌∙◌, ℕ, suc, ◌+◌, ◌<◌, Bool, true, false, List, [], ◌∷◌, ◌++◌, Option, None, Some, if◌then◌else◌, refl, ap, sym, arith, min, reverse, map, drop, length, get_or}
use Rattle.std.proofs.Math.Seq.{drop-cons}
use Rattle.std.proofs.lemmas.List.{reverse-append}
use Rattle.std.specs.Prelude.{◌&&◌}
use Rattle.std.specs.Str.{bytes_eq}
use Rattle.pg_gametext.specs.Before.{Given, least_with, first_place, only_declared}
use Rattle.pg_named.specs.declared.given.Given.{Given as Entry}
use Rattle.pg_named.specs.View.{given}
use Rattle.pg_named.specs.Bound.{over}
use Rattle.pg_named.specs.Found.{kept, counts, sooner_place, with_entry}

least_assoc : (a b c : ℕ) → min a (min b c) ≡ min (min a b) c
least_assoc a b c = omega arith

least_comm : (a b : ℕ) → min a b ≡ min b a
least_comm a b = omega arith

-- one place more, on either side
pub one_more : (at : ℕ) (first rest : Option ℕ) → sooner_place first (least_with at rest) ≡ sooner_place (least_with at first) rest
one_more at None None = refl
one_more at None (Some b) = refl
one_more at (Some a) None = ap Some (least_comm a at)
one_more at (Some a) (Some b) = ap Some (least_assoc a at b ∙ ap (λ n. min n b) (least_comm a at))

chosen : (at : ℕ) (first rest : Option ℕ) (named : Bool) → sooner_place first (if named then least_with at rest else rest) ≡ sooner_place (if named then least_with at first else first) rest
chosen at first rest true = one_more at first rest
chosen at first rest false = refl

declared_turn : (x : List ℕ) (g : Given) (gs : List Given) (first : Option ℕ) (declared : Bool)
    → sooner_place first (first_place x (if declared then g ∷ gs else gs)) ≡ sooner_place (if declared && bytes_eq x g.name then least_with g.at first else first) (first_place x gs)
declared_turn x g gs first true = chosen g.at first (first_place x gs) (bytes_eq x g.name)
declared_turn x g gs first false = refl

-- one entry more
pub turn : (x : List ℕ) (declared : Bool) (g : Given) (gs : List Given) (first : Option ℕ)
    → sooner_place first (first_place x (kept declared (g ∷ gs))) ≡ sooner_place (with_entry x declared g first) (first_place x (kept declared gs))
turn x true g gs first = declared_turn x g (only_declared gs) first g.declared
turn x false g gs first = chosen g.at first (first_place x gs) (bytes_eq x g.name)

pub turned : (x : List ℕ) (declared : Bool) (es : List Entry) (i : ℕ) (other : Entry) (first next all : Option ℕ)
    → i < length es → sooner_place first (first_place x (kept declared (map given (drop i es)))) ≡ all → next ≡ with_entry x declared (given (get_or es i other)) first
    → sooner_place next (first_place x (kept declared (map given (drop (i + 1) es)))) ≡ all
turned x declared es i other first next all lt inv is =
    let e : i + 1 ≡ suc i = omega arith in
    ap (λ n. sooner_place next (first_place x (kept declared (map given (drop n es))))) e
    ∙ ap (λ o. sooner_place o (first_place x (kept declared (map given (drop (suc i) es))))) is
    ∙ sym (turn x declared (given (get_or es i other)) (map given (drop (suc i) es)) first)
    ∙ sym (ap (λ zs. sooner_place first (first_place x (kept declared (map given zs)))) (drop-cons es i other lt))
    ∙ inv

-- the first entry
pub entry : (x : List ℕ) (declared : Bool) (g : Given) (gs : List Given) → first_place x (kept declared (g ∷ gs)) ≡ with_entry x declared g (first_place x (kept declared gs))
entry x false g gs = refl
entry x true g gs = only x g gs g.declared
  where
    only : (x : List ℕ) (g : Given) (gs : List Given) (declared : Bool)
        → first_place x (if declared then g ∷ only_declared gs else only_declared gs) ≡ (if declared && bytes_eq x g.name then least_with g.at (first_place x (only_declared gs)) else first_place x (only_declared gs))
    only x g gs true = refl
    only x g gs false = refl

pub no_more : (o : Option ℕ) → sooner_place o None ≡ o
no_more None = refl
no_more (Some a) = refl

assoc : (at : ℕ) (a b : Option ℕ) → least_with at (sooner_place a b) ≡ sooner_place (least_with at a) b
assoc at None b = refl
assoc at (Some a) None = refl
assoc at (Some a) (Some b) = ap Some (least_assoc at a b)

picked : (a b c : Option ℕ) (named : Bool) (at : ℕ) → c ≡ sooner_place a b → (if named then least_with at c else c) ≡ sooner_place (if named then least_with at a else a) b
picked a b c true at e = ap (least_with at) e ∙ assoc at a b
picked a b c false at e = e

nothing : (x : List ℕ) (declared : Bool) → first_place x (kept declared []) ≡ None
nothing x true = refl
nothing x false = refl

-- two lists, one behind the other
joined : (x : List ℕ) (declared : Bool) (es fs : List Entry)
    → first_place x (kept declared (map given (es ++ fs))) ≡ sooner_place (first_place x (kept declared (map given es))) (first_place x (kept declared (map given fs)))
joined x true [] fs = refl
joined x false [] fs = refl
joined x declared (e ∷ es) fs =
    entry x declared (given e) (map given (es ++ fs))
    ∙ picked _ _ _ (counts x declared (given e)) e.at (joined x declared es fs)
    ∙ ap (λ o. sooner_place o (first_place x (kept declared (map given fs)))) (sym (entry x declared (given e) (map given es)))

-- it matters not in which order they stand
pub reversed : (x : List ℕ) (declared : Bool) (es : List Entry) → first_place x (kept declared (map given (reverse es))) ≡ first_place x (kept declared (map given es))
reversed x declared [] = refl
reversed x declared (e ∷ es) =
    ap (λ zs. first_place x (kept declared (map given zs))) (reverse-append (e ∷ []) es)
    ∙ joined x declared (reverse es) (e ∷ [])
    ∙ ap (λ o. sooner_place o (first_place x (kept declared (given e ∷ [])))) (reversed x declared es)
    ∙ turn x declared (given e) [] (first_place x (kept declared (map given es)))
    ∙ ap (sooner_place (with_entry x declared (given e) (first_place x (kept declared (map given es))))) (nothing x declared)
    ∙ no_more (with_entry x declared (given e) (first_place x (kept declared (map given es))))
    ∙ sym (entry x declared (given e) (map given es))

pub appended : (x : List ℕ) (gs hs : List Given) → first_place x (gs ++ hs) ≡ sooner_place (first_place x gs) (first_place x hs)
appended x [] hs = refl
appended x (g ∷ gs) hs = picked _ _ _ (bytes_eq x g.name) g.at (appended x gs hs)

-- a declared name is looked for in both tables, another in the first
pub in_both : (x : List ℕ) (es fs es' fs' : List Entry) (declared : Bool) (r a b : Option ℕ)
    → r ≡ sooner_place a b → a ≡ first_place x (map given es') → b ≡ first_place x (map given fs') → es' ≡ es → fs' ≡ fs → declared ≡ true
    → r ≡ first_place x (if declared then map given (reverse es) ++ map given (reverse fs) else map given (reverse es))
in_both x es fs es' fs' declared r a b is a_is b_is e f d =
    is
    ∙ ap (λ o. sooner_place o b) (a_is ∙ ap (λ zs. first_place x (map given zs)) e ∙ sym (reversed x false es))
    ∙ ap (sooner_place (first_place x (map given (reverse es)))) (b_is ∙ ap (λ zs. first_place x (map given zs)) f ∙ sym (reversed x false fs))
    ∙ sym (appended x (map given (reverse es)) (map given (reverse fs)))
    ∙ ap (λ (t : Bool). first_place x (if t then map given (reverse es) ++ map given (reverse fs) else map given (reverse es))) (sym d)

pub in_first : (x : List ℕ) (es fs es' : List Entry) (declared : Bool) (a : Option ℕ)
    → a ≡ first_place x (map given es') → es' ≡ es → declared ≡ false
    → a ≡ first_place x (if declared then map given (reverse es) ++ map given (reverse fs) else map given (reverse es))
in_first x es fs es' declared a a_is e d =
    a_is ∙ ap (λ zs. first_place x (map given zs)) e ∙ sym (reversed x false es)
    ∙ ap (λ (t : Bool). first_place x (if t then map given (reverse es) ++ map given (reverse fs) else map given (reverse es))) (sym d)

-- names before others
pub over_place : (x : List ℕ) (taken gs : List Given) → first_place x (over taken gs) ≡ sooner_place (first_place x gs) (first_place x taken)
over_place x taken [] = refl
over_place x taken (g ∷ gs) = over_place x (g ∷ taken) gs ∙ chosen g.at (first_place x gs) (first_place x taken) (bytes_eq x g.name)
