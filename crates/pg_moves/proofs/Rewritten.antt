-- `rw` and `apply e at h`: proofs of the new goals make one of the old goal, and the new goals fit.
use Rattle.std.proofs.Common.{◌≡◌, ℕ, zero, suc, ◌+◌, ◌≤◌, List, [], ◌∷◌, ◌++◌, length, map, Bool, true, false, ◌&&◌, Option, Some, None, refl, arith, ap, sym, ◌∙◌, subst, length-append}
use Rattle.std.specs.Prelude.{Result, Ok, Err, if◌then◌else◌, slice_get, unwrap_or}
use Rattle.std.specs.Option.{option_or}
use Rattle.std.specs.List.{list_all}
use Rattle.std.proofs.lemmas.Bool.{and_parts}
use Rattle.pg_base.specs.Tokens.{Word}
use Rattle.pg_logic.specs.Tree.{Tm, free, bound, nought, succ, app, Tms, none, arg, Fm, falsum, eq, pred, and, or, imp, all, ex, same, opened_formula}
use Rattle.pg_logic.specs.Signature.{Function, Signature, fits, fits_term, fits_terms}
use Rattle.pg_logic.specs.Declarations.{Name, signature_of}
use Rattle.pg_logic.specs.Kernel.{Pf, hyp, alle, repl}
use Rattle.pg_logic.proofs.Fitting.{fits-opened}
use Rattle.pg_script.specs.Data.{Rule}
use Rattle.pg_moves.specs.Goals.{Goal, aimed}
use Rattle.pg_moves.specs.Causes.{NoInstance, NoSuchName, and_then, wanted}
use Rattle.pg_moves.specs.Lookup.{Lookup, IsAvailable}
use Rattle.pg_moves.specs.Expressions.{gives}
use Rattle.pg_moves.specs.Instances.{Values, filled, filled_formula, standing, standing_in, values_of, terms_of, is_closed, term_instance, subterms, subterms_in, subterms_of, first_found, first_instance}
use Rattle.pg_moves.specs.Replaced.{replaced_formula, abstracted_formula}
use Rattle.pg_moves.specs.Stripped.{unbound, fixed}
use Rattle.pg_moves.specs.Closing.{given}
use Rattle.pg_moves.specs.Assuming.{hypothesis, hypothesis_there, changed_to}
use Rattle.pg_moves.specs.Rewriting.{Sides, sides, not_bare, no_binder, exchanged, rewritten_by, rewritten, rewrite, rewrite_at}
use Rattle.pg_moves.specs.Proofs.{Proves, hyp_formula, sequent}
use Rattle.pg_moves.proofs.ByRecursion.{Fits}
use Rattle.pg_moves.specs.Frames.{Frame, flipped, Turns}
use Rattle.pg_moves.specs.Frames as frames
use Rattle.pg_moves.proofs.Rules.{gives as from_gives, by_hyp, by_alle, by_repl}
use Rattle.pg_moves.proofs.Turning.{at}
use Rattle.pg_moves.proofs.Moved.{append_nil, append_assoc, by_flipped, turn-rw}
use Rattle.pg_moves.proofs.Replaced.{put_back_formula, unchanged_formula, fits-abstracted}
use Rattle.pg_moves.proofs.Fitted.{fits-replaced}
use Rattle.pg_moves.proofs.Sequents.{then-ok, wanted-ok}
use Rattle.pg_moves.proofs.Given.{Sound, Has, given-has, fit_at}
use Rattle.pg_moves.proofs.Good.{Good, Works, tried-ok, one_goal}
use Rattle.pg_moves.proofs.Hypothetical.{found-there, changed}
use Rattle.pg_moves.proofs.Filled.{AreClosed, filled_under, filled-all, filled-eq, filled-next, filled-append, tight-fits}

-- ---- the values of an instance are closed

module _ (fs : List Function) (n : ℕ) where
  abbrev FitsUnder : ℕ → Tm → Type 0
  FitsUnder d t = fits_term fs n d t ≡ true

  -- what stands somewhere in a term
  or-fits : (d : ℕ) (x y : Option Tm) (t : Tm) → ((t : Tm) → x ≡ Some t → FitsUnder d t) → ((t : Tm) → y ≡ Some t → FitsUnder d t) → option_or x y ≡ Some t → FitsUnder d t
  or-fits d None y t f g e = g t e
  or-fits d (Some u) y t f g e = f t e

  mutual
    pub standing-fits : (i d : ℕ) (p s t : Tm) → FitsUnder d s → standing i p s ≡ Some t → FitsUnder d t
    standing-fits i d (bound j) s t f e = go (Rattle.std.specs.Prelude.nat_eq i j) e
      where
        go : (b : Bool) → (if b then Some s else None) ≡ Some t → FitsUnder d t
        go true e = let is : s ≡ t = cc in subst (FitsUnder d) is f
        go false e = absurd (cc)
    standing-fits i d (succ p) (succ s) t f e = standing-fits i d p s t f e
    standing-fits i d (app g ps) (app k ss) t f e = standing_in-fits i d ps ss t (and_parts _ _ f).1 e
    standing-fits i d _ _ t f e = absurd (cc)

    pub standing_in-fits : (i d : ℕ) (ps ss : Tms) (t : Tm) → fits_terms fs n d ss ≡ true → standing_in i ps ss ≡ Some t → FitsUnder d t
    standing_in-fits i d (arg p ps) (arg s ss) t f e =
        let q = and_parts _ _ f in
        or-fits d (standing i p s) (standing_in i ps ss) t (λ t e. standing-fits i d p s t q.0 e) (λ t e. standing_in-fits i d ps ss t q.1 e) e
    standing_in-fits i d _ _ t f e = absurd (cc)

  -- the values are closed where they have no loose bound variable; one that is missing is 0
  abbrev pub ValuesFit : Values → Type 0
  ValuesFit [] = Unit {0}
  ValuesFit (None ∷ vs) = ValuesFit vs
  ValuesFit (Some t ∷ vs) = (fits_term fs n 0 t ≡ true) × ValuesFit vs

  abbrev pub SomeDepth : Tm → Type 0
  SomeDepth t = (d : ℕ) × FitsUnder d t

  one-closed : (v : Option Tm) (vs : Values) → ((t : Tm) → v ≡ Some t → SomeDepth t) → is_closed v ≡ true → ValuesFit vs → ValuesFit (v ∷ vs)
  one-closed None vs f c more = more
  one-closed (Some t) vs f c more = let x = f t refl in (tight-fits fs n t x.0 0 x.1 c, more)

  pub values-fit : (holes : ℕ) (value : ℕ → Option Tm) → ((i : ℕ) (t : Tm) → value i ≡ Some t → SomeDepth t) → list_all is_closed (values_of holes value) ≡ true → ValuesFit (values_of holes value)
  values-fit zero value f c = tt
  values-fit (suc k) value f c = let p = and_parts _ _ c in one-closed (value k) (values_of k value) (f k) p.0 (values-fit k value f p.1)

  pub length-values : (holes : ℕ) (value : ℕ → Option Tm) → length (values_of holes value) ≡ holes
  length-values zero value = refl
  length-values (suc k) value = ap suc (length-values k value)

  -- values that fit, so many as there are holes
  abbrev pub Values_of : ℕ → Values → Type 0
  Values_of holes vs = ValuesFit vs × (length vs ≡ holes)

  chosen : (holes : ℕ) (value : ℕ → Option Tm) (b c : Bool) (vs : Values) → ((i : ℕ) (t : Tm) → value i ≡ Some t → SomeDepth t) → list_all is_closed (values_of holes value) ≡ b →
      (if b && c then Some (values_of holes value) else None) ≡ Some vs → Values_of holes vs
  chosen holes value true true vs f is e = let q : values_of holes value ≡ vs = cc in subst (Values_of holes) q (values-fit holes value f is, length-values holes value)
  chosen holes value true false vs f is e = absurd (cc)
  chosen holes value false c vs f is e = absurd (cc)

  term-values : (pattern : Tm) (holes d : ℕ) (subject : Tm) (vs : Values) → FitsUnder d subject → term_instance pattern holes subject ≡ Some vs → Values_of holes vs
  term-values pattern holes d subject vs f e =
      let value : ℕ → Option Tm = λ i. standing i pattern subject in
      chosen holes value (list_all is_closed (values_of holes value)) (same (filled (terms_of (values_of holes value)) pattern) subject) vs (λ i t e. (d, standing-fits i d pattern subject t f e)) refl e

  -- ---- the subterms of a formula

  abbrev EachFits : List Tm → Type 0
  EachFits [] = Unit {0}
  EachFits (t ∷ ts) = SomeDepth t × EachFits ts

  each-append : (ts us : List Tm) → EachFits ts → EachFits us → EachFits (ts ++ us)
  each-append [] us f g = g
  each-append (t ∷ ts) us f g = (f.0, each-append ts us f.1 g)

  mutual
    subterms-fit : (t : Tm) (d : ℕ) → FitsUnder d t → EachFits (subterms t)
    subterms-fit (free i) d f = ((d, f), tt)
    subterms-fit (bound i) d f = ((d, f), tt)
    subterms-fit nought d f = ((d, f), tt)
    subterms-fit (succ t) d f = ((d, f), subterms-fit t d f)
    subterms-fit (app g ts) d f = ((d, f), subterms_in-fit ts d (and_parts _ _ f).1)

    subterms_in-fit : (ts : Tms) (d : ℕ) → fits_terms fs n d ts ≡ true → EachFits (subterms_in ts)
    subterms_in-fit none d f = tt
    subterms_in-fit (arg t ts) d f = let q = and_parts _ _ f in each-append (subterms t) (subterms_in ts) (subterms-fit t d q.0) (subterms_in-fit ts d q.1)

  found-values : (pattern : Tm) (holes : ℕ) (more : Option Values) (o : Option Values) (vs : Values) → ((us : Values) → o ≡ Some us → Values_of holes us) → (more ≡ Some vs → Values_of holes vs) →
      option_or o more ≡ Some vs → Values_of holes vs
  found-values pattern holes more (Some us) vs f go e = f vs e
  found-values pattern holes more None vs f go e = go e

  first-values : (pattern : Tm) (holes : ℕ) (ts : List Tm) (vs : Values) → EachFits ts → first_found (term_instance pattern holes) ts ≡ Some vs → Values_of holes vs
  first-values pattern holes [] vs f e = absurd (cc)
  first-values pattern holes (t ∷ ts) vs f e =
      found-values pattern holes (first_found (term_instance pattern holes) ts) (term_instance pattern holes t) vs (λ us is. term-values pattern holes f.0.0 t us f.0.1 is)
      (λ is. first-values pattern holes ts vs f.1 is) (found-or (term_instance pattern holes t) (first_found (term_instance pattern holes) ts) ∙ e)
    where
      found-or : (o more : Option Values) → option_or o more ≡ (elim o [ Some y ↦ Some y | None ↦ more ])
      found-or None more = refl
      found-or (Some y) more = refl

  -- ---- fixed values

  pub fixed-ok : (xs : List Name) (vs : Values) (ts : List Tm) → length xs ≡ length vs → ValuesFit vs → fixed xs vs ≡ Ok ts → AreClosed fs n ts × (length ts ≡ length xs) × (terms_of vs ≡ ts)
  fixed-ok [] [] ts l f e = let q : [] ≡ ts = cc in subst (λ ts. AreClosed fs n ts × (length ts ≡ 0) × ([] ≡ ts)) q (tt, refl, refl)
  fixed-ok [] (v ∷ vs) ts l f e = absurd (omega (arith, l))
  fixed-ok (x ∷ xs) [] ts l f e = absurd (omega (arith, l))
  fixed-ok (x ∷ xs) (None ∷ vs) ts l f e = absurd (cc)
  fixed-ok (x ∷ xs) (Some t ∷ vs) ts l f e =
      let y = then-ok (fixed xs vs) (λ us. Ok (t ∷ us)) ts e in
      let k = fixed-ok xs vs y.0 (omega (arith, l)) f.1 y.1 in
      let q : t ∷ y.0 ≡ ts = cc in
      subst (λ ts. AreClosed fs n ts × (length ts ≡ length (x ∷ xs)) × (terms_of (Some t ∷ vs) ≡ ts)) q ((f.0, k.0), ap suc k.1, ap (λ l. t ∷ l) k.2)

subterms_of-fit : (s : Signature) (n : ℕ) (a : Fm) (d : ℕ) → fits s n d a ≡ true → EachFits s.functions n (subterms_of a)
subterms_of-fit s n falsum d f = tt
subterms_of-fit s n (eq t u) d f = let q = and_parts _ _ f in each-append s.functions n (subterms t) (subterms u) (subterms-fit s.functions n t d q.0) (subterms-fit s.functions n u d q.1)
subterms_of-fit s n (pred p ts) d f = subterms_in-fit s.functions n ts d (and_parts _ _ f).1
subterms_of-fit s n (and a b) d f = let q = and_parts _ _ f in each-append s.functions n (subterms_of a) (subterms_of b) (subterms_of-fit s n a d q.0) (subterms_of-fit s n b d q.1)
subterms_of-fit s n (or a b) d f = let q = and_parts _ _ f in each-append s.functions n (subterms_of a) (subterms_of b) (subterms_of-fit s n a d q.0) (subterms_of-fit s n b d q.1)
subterms_of-fit s n (imp a b) d f = let q = and_parts _ _ f in each-append s.functions n (subterms_of a) (subterms_of b) (subterms_of-fit s n a d q.0) (subterms_of-fit s n b d q.1)
subterms_of-fit s n (all x a) d f = subterms_of-fit s n a (d + 1) f
subterms_of-fit s n (ex x a) d f = subterms_of-fit s n a (d + 1) f

-- ---- all leading binders taken off

binders-grow : (xs : List Name) (a : Fm) → length xs ≤ length (unbound xs a).binders
binders-grow xs falsum = omega arith
binders-grow xs (eq t u) = omega arith
binders-grow xs (pred p ts) = omega arith
binders-grow xs (and a b) = omega arith
binders-grow xs (or a b) = omega arith
binders-grow xs (imp a b) = omega arith
binders-grow xs (all x a) = omega (arith, binders-grow (xs ++ x ∷ []) a, length-append xs (x ∷ []))
binders-grow xs (ex x a) = omega arith

pub closed-append : (fs : List Function) (n : ℕ) (us : List Tm) (t : Tm) → AreClosed fs n us → fits_term fs n 0 t ≡ true → AreClosed fs n (us ++ t ∷ [])
closed-append fs n [] t c ct = (ct, tt)
closed-append fs n (u ∷ us) t c ct = (c.0, closed-append fs n us t c.1 ct)

module _ (l : Lookup) (ok : Sound l) (g : Goal) (fit : Fits (signature_of l.declared) (sequent g)) where
  abbrev s : Signature
  s = signature_of l.declared

  abbrev Q : ℕ → Type 0
  Q = IsAvailable l

  abbrev n : ℕ
  n = length g.vars

  abbrev h : List Fm
  h = map hyp_formula g.hyps

  abbrev H : Fm → Type 0
  H = Has l g

  abbrev C : List Tm → Type 0
  C = AreClosed s.functions n

  -- a formula at one term more
  at-term : (us : List Tm) (x : Name) (a : Fm) (t : Tm) → C us → fits_term s.functions n 0 t ≡ true → H (filled_formula us (all x a)) → H (filled_formula (us ++ t ∷ []) a)
  at-term us x a t cu ct k =
      let b = filled_under s.functions n us a in
      let k' = subst H (filled-all s.functions n us x a) k in
      let q : opened_formula t b ≡ filled_formula (us ++ t ∷ []) a = filled-next s.functions n us t a cu ct ∙ sym (filled-append s.functions n us (t ∷ []) a) in
      subst H q (record {
        fitting = fits-opened s n t b ct k'.fitting;
        proof = alle b t k'.proof;
        proves = by_alle s l.theorems Q n h x b t k'.proof k'.fitting ct k'.proves;
      })

  stay : (us : List Tm) (xs : List Name) (a : Fm) (ts : List Tm) → length xs ≡ length xs + length ts → H (filled_formula us a) → H (filled_formula (us ++ ts) a)
  stay us xs a [] e k = subst (λ us. H (filled_formula us a)) (sym (append_nil us)) k
  stay us xs a (t ∷ ts) e k = absurd (omega (arith, e))

  pub by-unbound : (us : List Tm) (xs : List Name) (a : Fm) (ts : List Tm) → C us → C ts → length (unbound xs a).binders ≡ length xs + length ts → H (filled_formula us a) → H (filled_formula (us ++ ts) (unbound xs a).rest)
  by-unbound us xs (all x a) [] cu ct e k = absurd (omega (arith, e, binders-grow (xs ++ x ∷ []) a, length-append xs (x ∷ [])))
  by-unbound us xs (all x a) (t ∷ ts) cu ct e k =
      subst (λ us. H (filled_formula us (unbound (xs ++ x ∷ []) a).rest)) (append_assoc us (t ∷ []) ts)
      (by-unbound (us ++ t ∷ []) (xs ++ x ∷ []) a ts (closed-append s.functions n us t cu ct.0) ct.1 (omega (arith, e, length-append xs (x ∷ []))) (at-term us x a t cu ct.0 k))
  by-unbound us xs falsum ts cu ct e k = stay us xs falsum ts e k
  by-unbound us xs (eq t u) ts cu ct e k = stay us xs (eq t u) ts e k
  by-unbound us xs (pred p vs) ts cu ct e k = stay us xs (pred p vs) ts e k
  by-unbound us xs (and a b) ts cu ct e k = stay us xs (and a b) ts e k
  by-unbound us xs (or a b) ts cu ct e k = stay us xs (or a b) ts e k
  by-unbound us xs (imp a b) ts cu ct e k = stay us xs (imp a b) ts e k
  by-unbound us xs (ex x a) ts cu ct e k = stay us xs (ex x a) ts e k

  -- ---- rewriting

  -- what a rewriting by a proof of an equation needs
  pub record Equates (old new : Tm) : Type 0 where
    pub fits_old : fits_term s.functions n 0 old ≡ true
    pub fits_new : fits_term s.functions n 0 new ≡ true
    pub proof : Pf
    pub proves : Proves s l.theorems Q n h (eq old new) proof

  -- a formula and the one with the instance exchanged
  pub record Exchange (subject a : Fm) : Type 0 where
    pub old : Tm
    pub new : Tm
    pub equates : Equates old new
    pub is : replaced_formula old new subject ≡ a

  forwards : (x y : Tm) → H (eq x y) → Equates x y
  forwards x y k = let f = and_parts _ _ k.fitting in record { fits_old = f.0; fits_new = f.1; proof = k.proof; proves = from_gives s l.theorems Q n h (eq x y) k.proof k.proves }

  backwards : (x y : Tm) → H (eq x y) → Equates y x
  backwards x y k =
      let f = and_parts _ _ k.fitting in
      record {
        fits_old = f.1;
        fits_new = f.0;
        proof = flipped x y k.proof;
        proves = from_gives s l.theorems Q n h (eq y x) _ (by_flipped s l.theorems Q n h x y k.proof f.0 f.1 (from_gives s l.theorems Q n h (eq x y) k.proof k.proves));
      }

  by-sides : (back : Bool) (ts : List Tm) (c : Fm) (z : Sides) → sides back c ≡ Ok z → H (filled_formula ts c) → Equates (filled ts z.old) (filled ts z.new)
  by-sides true ts (eq x y) z e k =
      let q : record { old = y; new = x } ≡ z = cc in
      subst (λ (z : Sides). Equates (filled ts z.old) (filled ts z.new)) q (backwards (filled ts x) (filled ts y) (subst H (filled-eq s.functions n ts x y) k))
  by-sides false ts (eq x y) z e k =
      let q : record { old = x; new = y } ≡ z = cc in
      subst (λ (z : Sides). Equates (filled ts z.old) (filled ts z.new)) q (forwards (filled ts x) (filled ts y) (subst H (filled-eq s.functions n ts x y) k))
  by-sides back ts _ z e k = absurd (cc)

  no-binder : (z y : Sides) → no_binder z ≡ Ok y → z ≡ y
  no-binder z y e = go z.old e
    where
      go : (t : Tm) → not_bare t z ≡ Ok y → z ≡ y
      go (bound i) e = absurd (cc)
      go (free i) e = cc
      go nought e = cc
      go (succ t) e = cc
      go (app f ts) e = cc

  pub exchange : (r : Rule) (subject a : Fm) → fits s n 0 subject ≡ true → rewritten l g r subject ≡ Ok a → Exchange subject a
  exchange r subject a fs e =
      let x = then-ok (given l g r.expr) (λ a. rewritten_by r.back (unbound [] a) subject) a e in
      let form = unbound [] x.0 in
      let y = then-ok (sides r.back form.rest) (λ z. and_then (no_binder z) (exchanged form subject)) a x.2 in
      let z = then-ok (no_binder y.0) (exchanged form subject) a y.2 in
      let v = then-ok (wanted (first_instance z.0.old (length form.binders) subject) NoInstance) (λ vs. and_then (fixed form.binders vs) (λ ts. Ok (replaced_formula (filled ts z.0.old) (filled ts z.0.new) subject))) a z.2 in
      let w = then-ok (fixed form.binders v.0) (λ ts. Ok (replaced_formula (filled ts z.0.old) (filled ts z.0.new) subject)) a v.2 in
      let vf = first-values s.functions n z.0.old (length form.binders) (subterms_of subject) v.0 (subterms_of-fit s n subject 0 fs) (wanted-ok (first_instance z.0.old (length form.binders) subject) NoInstance v.0 v.1) in
      let k = fixed-ok s.functions n form.binders v.0 w.0 (sym vf.1) vf.0 w.1 in
      let has = by-unbound [] [] x.0 w.0 tt k.0 (omega (arith, k.1)) (given-has l ok g fit r.expr x.0 (tried-ok (gives l g r.expr) x.0 x.1)) in
      let eqs = by-sides r.back w.0 form.rest y.0 y.1 has in
      let q = no-binder y.0 z.0 z.1 in
      record {
        old = filled w.0 z.0.old;
        new = filled w.0 z.0.new;
        equates = subst (λ (z : Sides). Equates (filled w.0 z.old) (filled w.0 z.new)) q eqs;
        is = cc;
      }

  -- `rw [r]`, by a proof of the equation
  pub good-rewrite : (a : Fm) (k : Exchange g.target a) (new : List Goal) → aimed a g ∷ [] ≡ new →
      Good l (sequent g) (map sequent new) (frames.rewrite (abstracted_formula k.old 0 g.target) k.new k.old (flipped k.old k.new k.equates.proof) ∷ [])
  good-rewrite a k new e =
      let m = k.equates in
      let f = frames.rewrite (abstracted_formula k.old 0 g.target) k.new k.old (flipped k.old k.new m.proof) in
      one_goal l ok g fit (aimed a g) new (f ∷ []) (at n h a) (omega arith) e refl
      (λ rest. subst (λ a. Turns s l.theorems Q (f ∷ []) (sequent g ∷ rest) (at n h a ∷ rest)) k.is (turn-rw s l.theorems Q n h rest k.old k.new g.target m.proof m.fits_old m.fits_new fit.1 m.proves))
      (fit.0, subst (λ a. fits s n 0 a ≡ true) k.is (fits-replaced s n k.old k.new g.target m.fits_new fit.1))

  pub works-rewrite : (r : Rule) → Works l g (rewrite l g r)
  works-rewrite r new e =
      let x = then-ok (rewritten l g r g.target) (λ a. Ok (aimed a g ∷ [])) new e in
      (_, good-rewrite x.0 (exchange r g.target x.0 fit.1 x.1) new (cc))

  -- `rw [r] at h`
  pub works-rewrite_at : (r : Rule) (x : Word) → Works l g (rewrite_at l g r x)
  works-rewrite_at r x new e =
      let y = then-ok (hypothesis_there g x) (λ f. and_then (rewritten l g r f.hyp.formula) (λ a. Ok (changed_to g f a ∷ []))) new e in
      let f = y.0 in
      let there = found-there g x.text f (wanted-ok (hypothesis g x.text) (NoSuchName x.at) f y.1) in
      let a = f.hyp.formula in
      let fa = fit_at s n h f.number a fit.0 there in
      let z = then-ok (rewritten l g r a) (λ a. Ok (changed_to g f a ∷ [])) new y.2 in
      let k = exchange r a z.0 fa z.1 in
      let m = k.equates in
      let b = abstracted_formula k.old 0 a in
      let fb = fits-abstracted s n k.old a 0 fa in
      let back = put_back_formula s n k.old k.new a fa in
      let here : opened_formula k.old b ≡ a = put_back_formula s n k.old k.old a fa ∙ unchanged_formula k.old a in
      let p : Proves s l.theorems Q n h (opened_formula k.old b) (hyp f.number) = subst (λ a. Proves s l.theorems Q n h a (hyp f.number)) (sym here) (from_gives s l.theorems Q n h a (hyp f.number) (by_hyp s l.theorems Q n h f.number a there)) in
      let d = repl b k.old k.new m.proof (hyp f.number) in
      let q : Proves s l.theorems Q n h (replaced_formula k.old k.new a) d =
      subst (λ a. Proves s l.theorems Q n h a d) back (from_gives s l.theorems Q n h (opened_formula k.new b) d (by_repl s l.theorems Q n h b k.old k.new m.proof (hyp f.number) fb m.fits_old m.fits_new m.proves p)) in
      (_, changed l ok g fit f z.0 new d (cc) (subst (λ a. fits s n 0 a ≡ true) k.is (fits-replaced s n k.old k.new a m.fits_new fa)) (subst (λ a. Proves s l.theorems Q n h a d) k.is q))
