-- A walk with no values before it finds the instance.
use Rattle.std.proofs.Common.{◌≡◌, ℕ, zero, suc, ◌+◌, List, [], ◌∷◌, length, Bool, true, false, ◌&&◌, Option, Some, None, refl, arith, ap, sym, ◌∙◌, subst}
use Rattle.std.specs.Prelude.{if◌then◌else◌}
use Rattle.std.specs.List.{list_all}
use Rattle.std.proofs.lemmas.Bool.{and_parts, and_from, false≢true}
use Rattle.pg_logic.specs.Tree.{Tm, same, Fm, same_formula, is_tight, is_tight_formula}
use Rattle.pg_moves.specs.Instances.{Values, filled, filled_formula, standing, standing_formula, values_of, terms_of, is_closed, term_instance, formula_instance}
use Rattle.pg_moves.proofs.Rules.{same-refl}
use Rattle.pg_match.specs.Walks.{nones, walk, walk_formula}
use Rattle.pg_match.proofs.Joining.{joined, Goes, walk-goes, formula-goes}
use Rattle.pg_match.proofs.Filling.{AreTight, within, formula_within, at-root, at_root-formula}
use Rattle.pg_match.proofs.Meeting.{fit, passes, walk-meets, formula-meets}

nones-long : (n : ℕ) → length (nones n) ≡ n
nones-long zero = refl
nones-long (suc n) = ap suc (nones-long n)

nones-closed : (n : ℕ) → list_all is_closed (nones n) ≡ true
nones-closed zero = refl
nones-closed (suc n) = nones-closed n

nones-fit : (n : ℕ) (ts : List Tm) → length ts ≡ n → fit (nones n) ts ≡ true
nones-fit zero [] e = refl
nones-fit zero (t ∷ ts) e = absurd (omega (arith, e))
nones-fit (suc n) [] e = absurd (omega (arith, e))
nones-fit (suc n) (t ∷ ts) e = nones-fit n ts (omega (arith, e))

nones-joined : (n : ℕ) (f : ℕ → Option Tm) → joined (nones n) f ≡ values_of n f
nones-joined zero f = refl
nones-joined (suc n) f = ap (λ k. f k ∷ joined (nones n) f) (nones-long n) ∙ ap (λ l. f n ∷ l) (nones-joined n f)

values-alike : (n : ℕ) (f g : ℕ → Option Tm) → ((i : ℕ) → f i ≡ g i) → values_of n f ≡ values_of n g
values-alike zero f g h = refl
values-alike (suc n) f g h = ap (λ v. v ∷ values_of n f) (h n) ∙ ap (λ l. g n ∷ l) (values-alike n f g h)

-- the terms that stand for values
terms-long : (n : ℕ) (f : ℕ → Option Tm) → length (terms_of (values_of n f)) ≡ n
terms-long zero f = refl
terms-long (suc n) f = ap suc (terms-long n f)

terms-tight : (vs : Values) → list_all is_closed vs ≡ true → AreTight (terms_of vs)
terms-tight [] h = tt
terms-tight (None ∷ vs) h = (refl, terms-tight vs h)
terms-tight (Some t ∷ vs) h = let q = and_parts (is_closed (Some t)) (list_all is_closed vs) h in (q.0, terms-tight vs q.1)

terms-fit : (vs : Values) → fit vs (terms_of vs) ≡ true
terms-fit [] = refl
terms-fit (None ∷ vs) = terms-fit vs
terms-fit (Some t ∷ vs) = and_from (same t t) (fit vs (terms_of vs)) (same-refl t) (terms-fit vs)

-- what a walk finds that goes through exactly where some terms make the subject
module _ (n : ℕ) (f : ℕ → Option Tm) (makes : List Tm → Bool) where
  abbrev found : Values
  found = values_of n f

  abbrev instance : Option Values
  instance = if list_all is_closed found && makes (terms_of found) then Some found else None

  is-instance : (o : Option Values) → Goes (nones n) f o → ((ts : List Tm) → AreTight ts → length ts ≡ n → passes o ts ≡ makes ts) → o ≡ instance
  is-instance (Some new) g h =
      let is : new ≡ found = g.0 ∙ nones-joined n f in
      let closed : list_all is_closed found ≡ true = subst (λ vs. list_all is_closed vs ≡ true) is (g.1 (nones-closed n)) in
      let made : makes (terms_of found) ≡ true =
      sym (h (terms_of found) (terms-tight found closed) (terms-long n f)) ∙ ap (λ vs. fit vs (terms_of found)) is ∙ terms-fit found in
      ap Some is ∙ sym (ap (λ b. if b then Some found else None) (and_from _ _ closed made))
  is-instance None g h = so (list_all is_closed found && makes (terms_of found)) refl
    where
      so : (b : Bool) → (list_all is_closed found && makes (terms_of found)) ≡ b → None ≡ (if b then Some found else None)
      so false e = refl
      so true e =
          let k = and_parts (list_all is_closed found) (makes (terms_of found)) e in
          absurd (false≢true (h (terms_of found) (terms-tight found k.0) (terms-long n f) ∙ k.1))

from-zero : (i : ℕ) → 0 + i ≡ i
from-zero i = omega arith

pub walk_instance : (p : Tm) (n : ℕ) (s : Tm) → is_tight n p ≡ true → walk 0 (nones n) p s ≡ term_instance p n s
walk_instance p n s h =
    is-instance n (λ i. standing (0 + i) p s) (λ ts. same (filled ts p) s) (walk 0 (nones n) p s) (walk-goes 0 (nones n) p s)
    (λ ts c e.
    let long : 0 + length ts ≡ n = omega (arith, e) in
    walk-meets ts c 0 p s (nones n) (nones-long n ∙ sym e) (subst (λ k. is_tight k p ≡ true) (sym long) h)
    ∙ ap (λ b. b && same (within 0 ts p) s) (nones-fit n ts e) ∙ ap (λ x. same x s) (at-root ts p))
    ∙ ap (λ vs. if list_all is_closed vs && same (filled (terms_of vs) p) s then Some vs else None)
    (values-alike n (λ i. standing (0 + i) p s) (λ i. standing i p s) (λ i. ap (λ k. standing k p s) (from-zero i)))

pub formula_instance_found : (p : Fm) (n : ℕ) (s : Fm) → is_tight_formula n p ≡ true → walk_formula 0 (nones n) p s ≡ formula_instance p n s
formula_instance_found p n s h =
    is-instance n (λ i. standing_formula (0 + i) p s) (λ ts. same_formula (filled_formula ts p) s) (walk_formula 0 (nones n) p s) (formula-goes 0 (nones n) p s)
    (λ ts c e.
    let long : 0 + length ts ≡ n = omega (arith, e) in
    formula-meets ts c 0 p s (nones n) (nones-long n ∙ sym e) (subst (λ k. is_tight_formula k p ≡ true) (sym long) h)
    ∙ ap (λ b. b && same_formula (formula_within 0 ts p) s) (nones-fit n ts e) ∙ ap (λ x. same_formula x s) (at_root-formula ts p))
    ∙ ap (λ vs. if list_all is_closed vs && same_formula (filled_formula (terms_of vs) p) s then Some vs else None)
    (values-alike n (λ i. standing_formula (0 + i) p s) (λ i. standing_formula i p s) (λ i. ap (λ k. standing_formula k p s) (from-zero i)))

-- ---- what a walk answers

pub no_instance : (p : Tm) (n : ℕ) (s : Tm) (old : Values) → is_tight n p ≡ true → old ≡ nones n → walk 0 old p s ≡ None → None ≡ term_instance p n s
no_instance p n s old h e w = sym w ∙ ap (λ vs. walk 0 vs p s) e ∙ walk_instance p n s h

pub an_instance : (p : Tm) (n : ℕ) (s : Tm) (old new vs : Values) → is_tight n p ≡ true → old ≡ nones n → walk 0 old p s ≡ Some new → vs ≡ new → Some vs ≡ term_instance p n s
an_instance p n s old new vs h e w is = ap Some is ∙ sym w ∙ ap (λ vs. walk 0 vs p s) e ∙ walk_instance p n s h

pub no_formula_instance : (p : Fm) (n : ℕ) (s : Fm) (old : Values) → is_tight_formula n p ≡ true → old ≡ nones n → walk_formula 0 old p s ≡ None → None ≡ formula_instance p n s
no_formula_instance p n s old h e w = sym w ∙ ap (λ vs. walk_formula 0 vs p s) e ∙ formula_instance_found p n s h

pub a_formula_instance : (p : Fm) (n : ℕ) (s : Fm) (old new vs : Values) → is_tight_formula n p ≡ true → old ≡ nones n → walk_formula 0 old p s ≡ Some new → vs ≡ new → Some vs ≡ formula_instance p n s
a_formula_instance p n s old new vs h e w is = ap Some is ∙ sym w ∙ ap (λ vs. walk_formula 0 vs p s) e ∙ formula_instance_found p n s h
