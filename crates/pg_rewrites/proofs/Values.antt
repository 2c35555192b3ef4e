-- The terms of an instance fit, and there is one for each binder.
use Rattle.std.proofs.Common.{◌≡◌, ℕ, ◌+◌, List, [], ◌∷◌, ◌++◌, length, Bool, true, false, ◌&&◌, Option, Some, None, refl, subst}
use Rattle.std.specs.Prelude.{Ok, if◌then◌else◌}
use Rattle.std.specs.List.{AllByRecursion, list_all}
use Rattle.std.proofs.lemmas.Bool.{and_parts, and_from}
use Rattle.std.proofs.lemmas.List.Elements.{All-from_recursion}
use Rattle.pg_logic.specs.Tree.{Tm, free, bound, nought, succ, app, Tms, none, arg, Fm, falsum, eq, pred, and, or, imp, all, ex, same, same_formula, is_tight, are_tight, is_tight_formula}
use Rattle.pg_logic.specs.Declarations.{Name}
use Rattle.pg_logic.specs.Signature.{Function, Signature, fits, fits_term, fits_terms}
use Rattle.pg_moves.specs.Instances.{Values, AreTight, filled, filled_formula, standing, standing_formula, values_of, terms_of, is_closed, term_instance, formula_instance, subterms, subterms_in, subterms_of, first_found, first_instance}
use Rattle.pg_moves.specs.Causes.{NoInstance, and_then, wanted}
use Rattle.pg_moves.specs.Rewriting.{sides, no_binder}
use Rattle.pg_moves.specs.Stripped.{Stripped, fewest, fixed}
use Rattle.pg_moves.proofs.Sequents.{then-ok, wanted-ok}
use Rattle.pg_rewrites.specs.Applying.{Fit, steps_of, fitted, fit, forward_terms}
use Rattle.pg_rewrites.specs.Rewriting.{instance_terms, rule_terms}
use Rattle.pg_rewrites.proofs.Staged.{finding}
use Rattle.pg_moves.proofs.Rewritten.{SomeDepth, ValuesFit, values-fit, length-values, standing-fits}

-- ---- what fits has no loose bound variable

mutual
  tight-term : (fs : List Function) (n d : ℕ) (t : Tm) → fits_term fs n d t ≡ true → is_tight d t ≡ true
  tight-term fs n d (free i) h = refl
  tight-term fs n d (bound i) h = h
  tight-term fs n d nought h = refl
  tight-term fs n d (succ t) h = tight-term fs n d t h
  tight-term fs n d (app f ts) h = tight-terms fs n d ts (and_parts _ _ h).1

  tight-terms : (fs : List Function) (n d : ℕ) (ts : Tms) → fits_terms fs n d ts ≡ true → are_tight d ts ≡ true
  tight-terms fs n d none h = refl
  tight-terms fs n d (arg t ts) h = let p = and_parts _ _ h in and_from _ _ (tight-term fs n d t p.0) (tight-terms fs n d ts p.1)

pub fits-tight : (s : Signature) (n d : ℕ) (a : Fm) → fits s n d a ≡ true → is_tight_formula d a ≡ true
fits-tight s n d falsum h = refl
fits-tight s n d (eq t u) h = let p = and_parts _ _ h in and_from _ _ (tight-term s.functions n d t p.0) (tight-term s.functions n d u p.1)
fits-tight s n d (pred q ts) h = tight-terms s.functions n d ts (and_parts _ _ h).1
fits-tight s n d (and a b) h = let p = and_parts _ _ h in and_from _ _ (fits-tight s n d a p.0) (fits-tight s n d b p.1)
fits-tight s n d (or a b) h = let p = and_parts _ _ h in and_from _ _ (fits-tight s n d a p.0) (fits-tight s n d b p.1)
fits-tight s n d (imp a b) h = let p = and_parts _ _ h in and_from _ _ (fits-tight s n d a p.0) (fits-tight s n d b p.1)
fits-tight s n d (all x a) h = fits-tight s n (d + 1) a h
fits-tight s n d (ex x a) h = fits-tight s n (d + 1) a h

-- ---- the first instance

module _ (fs : List Function) (n : ℕ) where
  abbrev D : Tm → Type 0
  D = SomeDepth fs n

  abbrev EachFits : List Tm → Type 0
  EachFits [] = Unit {0}
  EachFits (t ∷ ts) = D t × EachFits ts

  each-append : (ts us : List Tm) → EachFits ts → EachFits us → EachFits (ts ++ us)
  each-append [] us f g = g
  each-append (t ∷ ts) us f g = (f.0, each-append ts us f.1 g)

  mutual
    subterms-fit : (t : Tm) (d : ℕ) → fits_term fs n d t ≡ true → EachFits (subterms t)
    subterms-fit (free i) d f = ((d, f), tt)
    subterms-fit (bound i) d f = ((d, f), tt)
    subterms-fit nought d f = ((d, f), tt)
    subterms-fit (succ t) d f = ((d, f), subterms-fit t d f)
    subterms-fit (app g ts) d f = ((d, f), subterms_in-fit ts d (and_parts _ _ f).1)

    subterms_in-fit : (ts : Tms) (d : ℕ) → fits_terms fs n d ts ≡ true → EachFits (subterms_in ts)
    subterms_in-fit none d f = tt
    subterms_in-fit (arg t ts) d f = let q = and_parts _ _ f in each-append (subterms t) (subterms_in ts) (subterms-fit t d q.0) (subterms_in-fit ts d q.1)

  -- values that fit, so many as there are holes
  abbrev pub Fixes : ℕ → Values → Type 0
  Fixes holes vs = ValuesFit fs n vs × (length vs ≡ holes)

  chosen : (holes : ℕ) (value : ℕ → Option Tm) (b c : Bool) (vs : Values) → ((i : ℕ) (t : Tm) → value i ≡ Some t → D t) → list_all is_closed (values_of holes value) ≡ b →
      (if b && c then Some (values_of holes value) else None) ≡ Some vs → Fixes holes vs
  chosen holes value true true vs f is e = let q : values_of holes value ≡ vs = cc in subst (Fixes holes) q (values-fit fs n holes value f is, length-values fs n holes value)
  chosen holes value true false vs f is e = absurd (cc)
  chosen holes value false c vs f is e = absurd (cc)

  term-values : (pattern : Tm) (holes : ℕ) (subject : Tm) (vs : Values) → D subject → term_instance pattern holes subject ≡ Some vs → Fixes holes vs
  term-values pattern holes subject vs f e =
      let value : ℕ → Option Tm = λ i. standing i pattern subject in
      chosen holes value (list_all is_closed (values_of holes value)) (same (filled (terms_of (values_of holes value)) pattern) subject) vs (λ i t e. (f.0, standing-fits fs n i f.0 pattern subject t f.1 e)) refl e

  here-or-on : (pattern : Tm) (holes : ℕ) (more o : Option Values) (vs : Values) → ((us : Values) → o ≡ Some us → Fixes holes us) → (more ≡ Some vs → Fixes holes vs) →
      (elim o [ Some y ↦ Some y | None ↦ more ]) ≡ Some vs → Fixes holes vs
  here-or-on pattern holes more (Some us) vs f go e = f vs e
  here-or-on pattern holes more None vs f go e = go e

  first-values : (pattern : Tm) (holes : ℕ) (ts : List Tm) (vs : Values) → EachFits ts → first_found (term_instance pattern holes) ts ≡ Some vs → Fixes holes vs
  first-values pattern holes [] vs f e = absurd (cc)
  first-values pattern holes (t ∷ ts) vs f e =
      here-or-on pattern holes (first_found (term_instance pattern holes) ts) (term_instance pattern holes t) vs (λ us is. term-values pattern holes t us f.0 is) (λ is. first-values pattern holes ts vs f.1 is) e

subterms_of-fit : (s : Signature) (n : ℕ) (a : Fm) (d : ℕ) → fits s n d a ≡ true → EachFits s.functions n (subterms_of a)
subterms_of-fit s n falsum d f = tt
subterms_of-fit s n (eq t u) d f = let q = and_parts _ _ f in each-append s.functions n (subterms t) (subterms u) (subterms-fit s.functions n t d q.0) (subterms-fit s.functions n u d q.1)
subterms_of-fit s n (pred p ts) d f = subterms_in-fit s.functions n ts d (and_parts _ _ f).1
subterms_of-fit s n (and a b) d f = let q = and_parts _ _ f in each-append s.functions n (subterms_of a) (subterms_of b) (subterms_of-fit s n a d q.0) (subterms_of-fit s n b d q.1)
subterms_of-fit s n (or a b) d f = let q = and_parts _ _ f in each-append s.functions n (subterms_of a) (subterms_of b) (subterms_of-fit s n a d q.0) (subterms_of-fit s n b d q.1)
subterms_of-fit s n (imp a b) d f = let q = and_parts _ _ f in each-append s.functions n (subterms_of a) (subterms_of b) (subterms_of-fit s n a d q.0) (subterms_of-fit s n b d q.1)
subterms_of-fit s n (all x a) d f = subterms_of-fit s n a (d + 1) f
subterms_of-fit s n (ex x a) d f = subterms_of-fit s n a (d + 1) f

-- the values of the first instance
pub first-fixes : (s : Signature) (n : ℕ) (pattern : Tm) (holes : ℕ) (a : Fm) (vs : Values) → fits s n 0 a ≡ true → first_instance pattern holes a ≡ Some vs → Fixes s.functions n holes vs
first-fixes s n pattern holes a vs f e = first-values s.functions n pattern holes (subterms_of a) vs (subterms_of-fit s n a 0 f) e

-- ---- what is fixed holds no bound variable

-- an instance has closed values
closed-if : (us vs : Values) (c : Bool) (b : Bool) → list_all is_closed us ≡ b → (if b && c then Some us else None) ≡ Some vs → list_all is_closed vs ≡ true
closed-if us vs true true is e = let q : us ≡ vs = cc in subst (λ vs. list_all is_closed vs ≡ true) q is
closed-if us vs false true is e = absurd (cc)
closed-if us vs c false is e = absurd (cc)

formula-closed : (p : Fm) (holes : ℕ) (subject : Fm) (vs : Values) → formula_instance p holes subject ≡ Some vs → list_all is_closed vs ≡ true
formula-closed p holes subject vs e =
    let us = values_of holes (λ i. standing_formula i p subject) in
    closed-if us vs (same_formula (filled_formula (terms_of us) p) subject) (list_all is_closed us) refl e

term-closed : (p : Tm) (holes : ℕ) (subject : Tm) (vs : Values) → term_instance p holes subject ≡ Some vs → list_all is_closed vs ≡ true
term-closed p holes subject vs e =
    let us = values_of holes (λ i. standing i p subject) in
    closed-if us vs (same (filled (terms_of us) p) subject) (list_all is_closed us) refl e

closed-here : (o more : Option Values) (vs : Values) → ((us : Values) → o ≡ Some us → list_all is_closed us ≡ true) → (more ≡ Some vs → list_all is_closed vs ≡ true) →
    (elim o [ Some y ↦ Some y | None ↦ more ]) ≡ Some vs → list_all is_closed vs ≡ true
closed-here (Some us) more vs f g e = f vs e
closed-here None more vs f g e = g e

first-closed : (p : Tm) (holes : ℕ) (ts : List Tm) (vs : Values) → first_found (term_instance p holes) ts ≡ Some vs → list_all is_closed vs ≡ true
first-closed p holes [] vs e = absurd (cc)
first-closed p holes (t ∷ ts) vs e = closed-here (term_instance p holes t) (first_found (term_instance p holes) ts) vs (λ us is. term-closed p holes t us is) (first-closed p holes ts vs) e

abbrev Tight : List Tm → Type 0
Tight ts = AllByRecursion (λ t. is_tight 0 t ≡ true) ts

fixed-tight : (xs : List Name) (vs : Values) (ts : List Tm) → list_all is_closed vs ≡ true → fixed xs vs ≡ Ok ts → AreTight ts
fixed-tight xs vs ts c e = All-from_recursion (λ t. is_tight 0 t ≡ true) ts (go xs vs ts c e)
  where
    go : (xs : List Name) (vs : Values) (ts : List Tm) → list_all is_closed vs ≡ true → fixed xs vs ≡ Ok ts → Tight ts
    go xs [] ts c e = let q : [] ≡ ts = cc in subst Tight q tt
    go [] (v ∷ vs) ts c e = let q : [] ≡ ts = cc in subst Tight q tt
    go (x ∷ xs) (None ∷ vs) ts c e = absurd (cc)
    go (x ∷ xs) (Some t ∷ vs) ts c e =
        let y = then-ok (fixed xs vs) (λ us. Ok (t ∷ us)) ts e in
        let k = and_parts (is_tight 0 t) (list_all is_closed vs) c in
        let q : t ∷ y.0 ≡ ts = cc in
        subst Tight q (k.0, go xs vs y.0 k.1 y.1)

-- what fits `apply`
pub fit-tight : (a subject : Fm) (f : Fit) → fit a subject ≡ Ok f → AreTight f.terms
fit-tight a subject f e =
    let y = then-ok (wanted (fewest a subject) NoInstance) fitted f e in
    let m = y.0 in
    let z = then-ok (fixed m.form.binders m.values) (λ ts. Ok (record { terms = ts; steps = steps_of m.form })) f y.2 in
    let k = finding subject [] [] a m (wanted-ok (fewest a subject) NoInstance m y.1) in
    let t = fixed-tight m.form.binders m.values z.0 (formula-closed m.form.rest (length m.form.binders) subject m.values k.values) z.1 in
    let q : record { terms = z.0; steps = steps_of m.form } ≡ f = cc in
    subst (λ (f : Fit). AreTight f.terms) q t

-- what fits `apply .. at`
pub forward-tight : (st : Stripped) (rest subject : Fm) (ts : List Tm) → forward_terms st rest subject ≡ Ok ts → AreTight ts
forward-tight st (imp u v) subject ts e =
    let y = then-ok (wanted (formula_instance u (length st.binders) subject) NoInstance) (fixed st.binders) ts e in
    fixed-tight st.binders y.0 ts (formula-closed u (length st.binders) subject y.0 (wanted-ok (formula_instance u (length st.binders) subject) NoInstance y.0 y.1)) y.2
forward-tight st falsum subject ts e = absurd (cc)
forward-tight st (eq t u) subject ts e = absurd (cc)
forward-tight st (pred p us) subject ts e = absurd (cc)
forward-tight st (and u v) subject ts e = absurd (cc)
forward-tight st (or u v) subject ts e = absurd (cc)
forward-tight st (all x u) subject ts e = absurd (cc)
forward-tight st (ex x u) subject ts e = absurd (cc)

-- what fits `rw`
pub rule-tight : (back : Bool) (st : Stripped) (subject : Fm) (ts : List Tm) → rule_terms back st subject ≡ Ok ts → AreTight ts
rule-tight back st subject ts e =
    let x = then-ok (sides back st.rest) (λ z. and_then (no_binder z) (instance_terms st subject)) ts e in
    let y = then-ok (no_binder x.0) (instance_terms st subject) ts x.2 in
    let z = y.0 in
    let v = then-ok (wanted (first_instance z.old (length st.binders) subject) NoInstance) (fixed st.binders) ts y.2 in
    fixed-tight st.binders v.0 ts (first-closed z.old (length st.binders) (subterms_of subject) v.0 (wanted-ok (first_instance z.old (length st.binders) subject) NoInstance v.0 v.1)) v.2
