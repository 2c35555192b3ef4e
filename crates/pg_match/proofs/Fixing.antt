-- The fixed values of binders, one after the other.
use Rattle.std.proofs.Common.{◌≡◌, ℕ, zero, suc, ◌+◌, ◌<◌, List, [], ◌∷◌, ◌++◌, length, map, Option, Some, None, Ok, Err, refl, arith, ap, sym, ◌∙◌, subst, drop, get_or, add-one, length-append}
use Rattle.std.specs.Prelude.{slice_get, option_map}
use Rattle.std.proofs.lemmas.List.{length-map, map-append}
use Rattle.pg_logic.specs.Tree.{Tm}
use Rattle.pg_logic.specs.Declarations.{Name}
use Rattle.pg_terms.specs.declared.term.Term.{Term}
use Rattle.pg_terms.specs.View.{term, terms}
use Rattle.pg_moves.specs.Causes as causes
use Rattle.pg_moves.specs.Causes.{and_then}
use Rattle.pg_moves.specs.Instances.{Values}
use Rattle.pg_moves.specs.Stripped.{fixed}
use Rattle.pg_match.specs.View.{values}

-- the first values are these terms
abbrev pub Fixed : List (Option Term) → ℕ → List Term → Type 0
Fixed items i ts = (values items ≡ map Some (terms ts) ++ drop i (values items)) × (length ts ≡ i)

fixed-all : (names : List Name) (ts : List Tm) → length names ≡ length ts → fixed names (map Some ts ++ []) ≡ Ok ts
fixed-all [] [] e = refl
fixed-all (x ∷ names) [] e = refl
fixed-all [] (t ∷ ts) e = absurd (omega (arith, e))
fixed-all (x ∷ names) (t ∷ ts) e = ap (λ o. and_then o (λ ts. Ok (t ∷ ts))) (fixed-all names ts (omega (arith, e)))

fixed-stops : (names : List Name) (ts : List Tm) (rest : Values) (x : Name) → slice_get names (length ts) ≡ Some x → fixed names (map Some ts ++ None ∷ rest) ≡ Err (causes.Undetermined x)
fixed-stops [] ts rest x e = absurd (cc)
fixed-stops (y ∷ names) [] rest x e = let q : y ≡ x = cc in ap (λ z. Err (causes.Undetermined z)) q
fixed-stops (y ∷ names) (t ∷ ts) rest x e = ap (λ o. and_then o (λ ts. Ok (t ∷ ts))) (fixed-stops names ts rest x e)

-- the values from a place on
from_place : (items : List (Option Term)) (i : ℕ) (v : Option Term) → i < length items → v ≡ get_or items i v → drop i (values items) ≡ option_map term v ∷ drop (suc i) (values items)
from_place [] i v lt is = absurd (omega arith)
from_place (w ∷ items) zero v lt is = ap (λ x. option_map term x ∷ values items) (sym is)
from_place (w ∷ items) (suc i) v lt is = from_place items i v (omega (arith, lt)) is

drop_all : (vs : Values) → drop (length vs) vs ≡ []
drop_all [] = refl
drop_all (v ∷ vs) = drop_all vs

one_more : (ts : List Tm) (t : Tm) (rest : Values) → map Some ts ++ Some t ∷ rest ≡ map Some (ts ++ t ∷ []) ++ rest
one_more [] t rest = refl
one_more (u ∷ ts) t rest = ap (λ l. Some u ∷ l) (one_more ts t rest)

-- none at first
pub fixed_first : (items : List (Option Term)) → Fixed items 0 []
fixed_first items = (refl, refl)

-- a value that is fixed
pub fixed_on : (items : List (Option Term)) (i : ℕ) (ts new : List Term) (v : Option Term) (t : Term) → Fixed items i ts → i < length items → v ≡ get_or items i v → v ≡ Some t → new ≡ ts ++ t ∷ [] →
    Fixed items (i + 1) new
fixed_on items i ts new v t h lt is some made = (
  h.0 ∙ ap (λ l. map Some (terms ts) ++ l) (from_place items i v lt is ∙ ap (λ x. option_map term x ∷ drop (suc i) (values items)) some)
      ∙ one_more (terms ts) (term t) (drop (suc i) (values items))
      ∙ ap (λ l. map Some l ++ drop (suc i) (values items)) (sym (ap terms made ∙ map-append term ts (t ∷ [])))
      ∙ ap (λ k. map Some (terms new) ++ drop k (values items)) (sym (add-one i)),
  ap length made ∙ length-append ts (t ∷ []) ∙ ap (λ k. k + 1) h.1,
)

-- a value that isn't
pub fixed_not : (items : List (Option Term)) (i : ℕ) (ts : List Term) (v : Option Term) → Fixed items i ts → i < length items → v ≡ get_or items i v → v ≡ None →
    (names : List Name) → length names ≡ length items → (i < length names) × ((x : Name) → slice_get names i ≡ Some x → fixed names (values items) ≡ Err (causes.Undetermined x))
fixed_not items i ts v h lt is none names long = (
  omega (arith, lt, long),
  λ x e.
      ap (fixed names) (h.0 ∙ ap (λ l. map Some (terms ts) ++ l) (from_place items i v lt is ∙ ap (λ w. option_map term w ∷ drop (suc i) (values items)) none))
      ∙ fixed-stops names (terms ts) (drop (suc i) (values items)) x (subst (λ k. slice_get names k ≡ Some x) (sym (length-map ts term ∙ h.1)) e),
)

-- all are
pub fixed_last : (items : List (Option Term)) (i : ℕ) (ts : List Term) → Fixed items i ts → length items ≡ i → (names : List Name) → length names ≡ length items → fixed names (values items) ≡ Ok (terms ts)
fixed_last items i ts h end names long =
    let e : drop i (values items) ≡ [] = ap (λ k. drop k (values items)) (sym end ∙ sym (length-map items (option_map term))) ∙ drop_all (values items) in
    let n : length names ≡ length (terms ts) = long ∙ end ∙ sym h.1 ∙ sym (length-map ts term) in
    ap (fixed names) (h.0 ∙ ap (λ l. map Some (terms ts) ++ l) e) ∙ fixed-all names (terms ts) n
