-- The first limit that an antecedent passes, along the formula.
use Rattle.std.proofs.Common.{◌≡◌, ℕ, zero, suc, ◌+◌, ◌-◌, ◌<◌, List, [], ◌∷◌, ◌++◌, length, map, take, true, Option, Some, None, refl, arith, ap, sym, ◌∙◌, subst, length-append, append_assoc}
use Rattle.std.specs.Prelude.{option_map}
use Rattle.std.specs.List.{AllByRecursion}
use Rattle.std.proofs.lemmas.List.{length-map}
use Rattle.std.proofs.lemmas.List.Elements.{All-from_recursion, recursion_from_All}
use Rattle.pg_logic.specs.Tree.{Tm, Fm, imp, all, is_tight}
use Rattle.pg_moves.specs.Instances.{filled_formula}
use Rattle.pg_moves.specs.Measures.{first_over, formula_measures}
use Rattle.pg_match.specs.Sizes.{AreSizes, size_of}
use Rattle.pg_match.specs.declared.sizing.Size.{Size}
use Rattle.pg_reduction.specs.declared.cause.Cause as rust
use Rattle.pg_reduction.specs.Limits.{told, Tells}
use Rattle.pg_reduction.specs.View.{cause_of}
use Rattle.pg_reduction.proofs.Large.{goes-on, found-large}
use Rattle.pg_rewrites.specs.Applying.{antecedents}
use Rattle.pg_reduction.proofs.Passed.{passed, large}

-- ---- sizes of the first terms

front-tight : (us ts : List Tm) → AllByRecursion (λ t. is_tight 0 t ≡ true) (us ++ ts) → AllByRecursion (λ t. is_tight 0 t ≡ true) us
front-tight [] ts c = tt
front-tight (u ∷ us) ts c = (c.0, front-tight us ts c.1)

map-front : (us ts : List Tm) → take (length us) (map size_of (us ++ ts)) ≡ map size_of us
map-front [] ts = refl
map-front (u ∷ us) ts = ap (λ l. size_of u ∷ l) (map-front us ts)

pub front-sizes : (us ts : List Tm) (n : ℕ) (values : List Size) → length us ≡ n → AreSizes (us ++ ts) values → AreSizes us (take n values)
front-sizes us ts n values l k = record {
  tight = All-from_recursion (λ t. is_tight 0 t ≡ true) us (front-tight us ts (recursion_from_All (λ t. is_tight 0 t ≡ true) (us ++ ts) k.tight));
  are = ap (take n) k.are ∙ ap (λ n. take n (map size_of (us ++ ts))) (sym l) ∙ map-front us ts;
}

pub count-sizes : (us ts : List Tm) (values : List Size) → AreSizes (us ++ ts) values → length values ≡ length us + length ts
count-sizes us ts values k = ap length k.are ∙ length-map (us ++ ts) size_of ∙ length-append us ts

-- ---- along a formula

pub imp-here : (steps : ℕ) (us ts : List Tm) (u v f : Fm) (x : rust.Cause) (o : Option rust.Cause) → (steps ≡ 0 → ⊥) → f ≡ imp u v → o ≡ Some x → Tells (first_over (formula_measures (filled_formula us u))) o → Tells (passed (antecedents steps us ts f)) (Some x)
imp-here zero us ts u v f x o nz e is t = absurd (nz refl)
imp-here (suc k) us ts u v f x o nz e is t =
    found-large (first_over (formula_measures (filled_formula us u))) (passed (antecedents k us ts v)) (passed (antecedents (suc k) us ts f)) x
    (ap (λ f. passed (antecedents (suc k) us ts f)) e ∙ large (filled_formula us u) (antecedents k us ts v)) (ap (option_map cause_of) (sym is) ∙ t)

pub imp-on : (steps : ℕ) (us ts : List Tm) (u v f : Fm) (o r : Option rust.Cause) → (steps ≡ 0 → ⊥) → f ≡ imp u v → o ≡ None → Tells (first_over (formula_measures (filled_formula us u))) o →
    Tells (passed (antecedents (steps - 1) us ts v)) r → Tells (passed (antecedents steps us ts f)) r
imp-on zero us ts u v f o r nz e is t next = absurd (nz refl)
imp-on (suc k) us ts u v f o r nz e is t next =
    let down : suc k - 1 ≡ k = omega arith in
    let n : None ≡ option_map told (first_over (formula_measures (filled_formula us u))) = ap (option_map cause_of) (sym is) ∙ t in
    subst (λ k. Tells (passed (antecedents k us ts v)) r) down next
    ∙ ap (option_map told) (sym (goes-on (first_over (formula_measures (filled_formula us u))) (passed (antecedents k us ts v)) (passed (antecedents (suc k) us ts f))
    (ap (λ f. passed (antecedents (suc k) us ts f)) e ∙ large (filled_formula us u) (antecedents k us ts v)) n))

pub all-on : (steps : ℕ) (us ts : List Tm) (x : List ℕ) (b f : Fm) (r : Option rust.Cause) → (steps ≡ 0 → ⊥) → f ≡ all x b → length us < length us + length ts →
    ((vs ws : List Tm) → length vs ≡ length us + 1 → vs ++ ws ≡ us ++ ts → Tells (passed (antecedents (steps - 1) vs ws b)) r) → Tells (passed (antecedents steps us ts f)) r
all-on zero us ts x b f r nz e lt next = absurd (nz refl)
all-on (suc k) us [] x b f r nz e lt next = absurd (omega arith)
all-on (suc k) us (t ∷ ts) x b f r nz e lt next =
    let down : suc k - 1 ≡ k = omega arith in
    let q = next (us ++ t ∷ []) ts (length-append us (t ∷ [])) (append_assoc us (t ∷ []) ts) in
    subst (λ k. Tells (passed (antecedents k (us ++ t ∷ []) ts b)) r) down q ∙ ap (λ f. option_map told (passed (antecedents (suc k) us (t ∷ ts) f))) (sym e)
