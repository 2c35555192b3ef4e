-- `apply`: proofs of the new goals make one of the old goal, and the new goals fit.
use Rattle.std.proofs.Common.{◌≡◌, ℕ, ◌+◌, ◌≤◌, ◌⊎◌, List, [], ◌∷◌, ◌++◌, length, map, take, Bool, true, false, ◌&&◌, Option, Some, None, refl, arith, ap, sym, ◌∙◌, subst, length-append, ⊎_elim, inl, inr}
use Rattle.std.specs.Prelude.{Ok, if◌then◌else◌, slice_get}
use Rattle.std.specs.Option.{option_or}
use Rattle.std.specs.List.{list_all}
use Rattle.std.proofs.lemmas.Bool.{and_parts, and_from}
use Rattle.pg_base.specs.Tokens.{Word}
use Rattle.pg_logic.specs.Tree.{Tm, Fm, falsum, eq, pred, and, or, imp, all, ex, same_formula, opened_formula}
use Rattle.pg_logic.specs.Signature.{Signature, fits}
use Rattle.pg_logic.specs.Declarations.{Name, signature_of}
use Rattle.pg_logic.specs.Kernel.{hyp, impe}
use Rattle.pg_logic.proofs.Fitting.{fits-opened}
use Rattle.pg_script.specs.Data.{Expression}
use Rattle.pg_moves.specs.Goals.{Goal, aimed}
use Rattle.pg_moves.specs.Causes.{NoInstance, NoSuchName, and_then, wanted}
use Rattle.pg_moves.specs.Lookup.{Lookup, IsAvailable}
use Rattle.pg_moves.specs.Expressions.{gives}
use Rattle.pg_moves.specs.Instances.{Values, filled_formula, standing, standing_formula, values_of, terms_of, is_closed, formula_instance, first_found}
use Rattle.pg_moves.specs.Stripped.{Antecedent, Stripped, stripped, strippings, unbound, Matched, with_values, fewest, fixed, antecedent_at}
use Rattle.pg_moves.specs.Closing.{given}
use Rattle.pg_moves.specs.Assuming.{Found, hypothesis, hypothesis_there, changed_to}
use Rattle.pg_moves.specs.Rewriting.{forward, apply_at}
use Rattle.pg_moves.specs.Rewriting as rewriting
use Rattle.pg_moves.specs.Proofs.{Sequent, Proves, hyp_formula, sequent}
use Rattle.pg_moves.proofs.ByRecursion.{AllFit, Fits, AllFitting}
use Rattle.pg_moves.specs.Frames.{Stage, for_all, where_so, asked, Frame, applied}
use Rattle.pg_moves.proofs.Rules.{gives as from_gives, by_hyp, by_impe, same_formula-refl}
use Rattle.pg_moves.proofs.Turning.{at}
use Rattle.pg_moves.proofs.Moved.{append_nil, append_assoc, sequents, TakesOff, turn-apply}
use Rattle.pg_moves.proofs.Sequents.{then-ok, wanted-ok}
use Rattle.pg_moves.proofs.Given.{Sound, Has, given-has, fit_at}
use Rattle.pg_moves.proofs.Good.{FewVars, Good, Works, tried-ok}
use Rattle.pg_moves.proofs.Hypothetical.{found-there, changed}
use Rattle.pg_moves.proofs.Filled.{AreClosed, filled_under, filled-all, filled-imp, filled-next, filled-append}
use Rattle.pg_moves.proofs.Rewritten.{SomeDepth, ValuesFit, values-fit, length-values, standing-fits, standing_in-fits, fixed-ok, closed-append, by-unbound}

-- ---- the values of an instance of a formula

or-some : {X : Type 0} (P : X → Type 0) (x y : Option X) (t : X) → ((t : X) → x ≡ Some t → P t) → ((t : X) → y ≡ Some t → P t) → option_or x y ≡ Some t → P t
or-some P None y t f g e = g t e
or-some P (Some u) y t f g e = f t e

module _ (s : Signature) (n : ℕ) where
  abbrev Somewhere : Tm → Type 0
  Somewhere = SomeDepth s.functions n

  standing_formula-fits : (p a : Fm) (i d : ℕ) (t : Tm) → fits s n d a ≡ true → standing_formula i p a ≡ Some t → Somewhere t
  standing_formula-fits (eq p q) (eq x y) i d t f e =
      let k = and_parts _ _ f in
      or-some Somewhere (standing i p x) (standing i q y) t (λ t e. (d, standing-fits s.functions n i d p x t k.0 e)) (λ t e. (d, standing-fits s.functions n i d q y t k.1 e)) e
  standing_formula-fits (pred p ps) (pred q ss) i d t f e = (d, standing_in-fits s.functions n i d ps ss t (and_parts _ _ f).1 e)
  standing_formula-fits (and p q) (and a b) i d t f e =
      let k = and_parts _ _ f in
      or-some Somewhere (standing_formula i p a) (standing_formula i q b) t (λ t e. standing_formula-fits p a i d t k.0 e) (λ t e. standing_formula-fits q b i d t k.1 e) e
  standing_formula-fits (or p q) (or a b) i d t f e =
      let k = and_parts _ _ f in
      or-some Somewhere (standing_formula i p a) (standing_formula i q b) t (λ t e. standing_formula-fits p a i d t k.0 e) (λ t e. standing_formula-fits q b i d t k.1 e) e
  standing_formula-fits (imp p q) (imp a b) i d t f e =
      let k = and_parts _ _ f in
      or-some Somewhere (standing_formula i p a) (standing_formula i q b) t (λ t e. standing_formula-fits p a i d t k.0 e) (λ t e. standing_formula-fits q b i d t k.1 e) e
  standing_formula-fits (all x p) (all y a) i d t f e = standing_formula-fits p a (i + 1) (d + 1) t f e
  standing_formula-fits (ex x p) (ex y a) i d t f e = standing_formula-fits p a (i + 1) (d + 1) t f e
  standing_formula-fits _ _ i d t f e = absurd (cc)

  -- they fit, are as many as the holes, and turn the pattern into the subject
  abbrev pub IsInstance : Fm → ℕ → Fm → Values → Type 0
  IsInstance pattern holes subject vs = ValuesFit s.functions n vs × (length vs ≡ holes) × (same_formula (filled_formula (terms_of vs) pattern) subject ≡ true)

  pub instance-is : (pattern : Fm) (holes : ℕ) (subject : Fm) (vs : Values) → fits s n 0 subject ≡ true → formula_instance pattern holes subject ≡ Some vs → IsInstance pattern holes subject vs
  instance-is pattern holes subject vs f e = go (list_all is_closed us) (same_formula (filled_formula (terms_of us) pattern) subject) refl refl e
    where
      value : ℕ → Option Tm
      value i = standing_formula i pattern subject

      us : Values
      us = values_of holes (λ i. standing_formula i pattern subject)

      go : (b c : Bool) → list_all is_closed us ≡ b → same_formula (filled_formula (terms_of us) pattern) subject ≡ c → (if b && c then Some us else None) ≡ Some vs → IsInstance pattern holes subject vs
      go true true is is' e =
          let q : us ≡ vs = cc in
          subst (IsInstance pattern holes subject) q
          (values-fit s.functions n holes (λ i. standing_formula i pattern subject) (λ i t e. standing_formula-fits pattern subject i 0 t f e) is, length-values s.functions n holes (λ i. standing_formula i pattern subject), is')
      go true false is is' e = absurd (cc)
      go false c is is' e = absurd (cc)

-- ---- the fewest that are stripped

abbrev pub looks : Fm → Stripped → Option Matched
looks subject st = with_values st (formula_instance st.rest (length st.binders) subject)

-- what is found says how the formula was stripped
abbrev Says : Fm → Stripped → Matched → Type 0
Says subject st m = (m.form ≡ st) × (formula_instance m.form.rest (length m.form.binders) subject ≡ Some m.values)

looks-say : (subject : Fm) (st : Stripped) (m : Matched) → looks subject st ≡ Some m → Says subject st m
looks-say subject st m e = go (formula_instance st.rest (length st.binders) subject) refl e
  where
    go : (o : Option Values) → formula_instance st.rest (length st.binders) subject ≡ o → with_values st o ≡ Some m → Says subject st m
    go None is e = absurd (cc)
    go (Some vs) is e = let q : record { form = st; values = vs } ≡ m = cc in subst (Says subject st) q (refl, is)

-- found here, or behind
either : (subject : Fm) (st : Stripped) (more : List Stripped) (m : Matched) → first_found (looks subject) (st ∷ more) ≡ Some m → Says subject st m ⊎ (first_found (looks subject) more ≡ Some m)
either subject st more m e = go (looks subject st) refl e
  where
    go : (o : Option Matched) → looks subject st ≡ o → (elim o [ Some y ↦ Some y | None ↦ first_found (looks subject) more ]) ≡ Some m → Says subject st m ⊎ (first_found (looks subject) more ≡ Some m)
    go (Some y) is e = inl (looks-say subject st m (is ∙ e))
    go None is e = inr e

-- nothing more is to be stripped
last : (subject : Fm) (st : Stripped) (m : Matched) → first_found (looks subject) (st ∷ []) ≡ Some m → Says subject st m
last subject st m e = ⊎_elim (λ x. x) (λ (y : None ≡ Some m). absurd (cc)) (either subject st [] m e)

grow : (subject : Fm) (a : Fm) (xs : List Name) (hs : List Antecedent) (m : Matched) → first_found (looks subject) (strippings xs hs a) ≡ Some m → length xs ≤ length m.form.binders
grow subject (all x a) xs hs m e =
    ⊎_elim (λ (k : Says subject (stripped xs hs (all x a)) m). omega (arith, ap (λ (f : Stripped). length f.binders) k.0))
    (λ k. omega (arith, grow subject a (xs ++ x ∷ []) hs m k, length-append xs (x ∷ [])))
    (either subject (stripped xs hs (all x a)) (strippings (xs ++ x ∷ []) hs a) m e)
grow subject (imp a b) xs hs m e =
    let hs' = hs ++ record { binders = length xs; formula = a } ∷ [] in
    ⊎_elim (λ (k : Says subject (stripped xs hs (imp a b)) m). omega (arith, ap (λ (f : Stripped). length f.binders) k.0)) (λ k. grow subject b xs hs' m k)
    (either subject (stripped xs hs (imp a b)) (strippings xs hs' b) m e)
grow subject falsum xs hs m e = omega (arith, ap (λ (f : Stripped). length f.binders) (last subject (stripped xs hs falsum) m e).0)
grow subject (eq t u) xs hs m e = omega (arith, ap (λ (f : Stripped). length f.binders) (last subject (stripped xs hs (eq t u)) m e).0)
grow subject (pred p ts) xs hs m e = omega (arith, ap (λ (f : Stripped). length f.binders) (last subject (stripped xs hs (pred p ts)) m e).0)
grow subject (and a b) xs hs m e = omega (arith, ap (λ (f : Stripped). length f.binders) (last subject (stripped xs hs (and a b)) m e).0)
grow subject (or a b) xs hs m e = omega (arith, ap (λ (f : Stripped). length f.binders) (last subject (stripped xs hs (or a b)) m e).0)
grow subject (ex x a) xs hs m e = omega (arith, ap (λ (f : Stripped). length f.binders) (last subject (stripped xs hs (ex x a)) m e).0)

module _ (l : Lookup) (ok : Sound l) (g : Goal) (fit : Fits (signature_of l.declared) (sequent g)) where
  abbrev s : Signature
  s = signature_of l.declared

  abbrev Q : ℕ → Type 0
  Q = IsAvailable l

  abbrev n : ℕ
  n = length g.vars

  abbrev h : List Fm
  h = map hyp_formula g.hyps

  abbrev C : List Tm → Type 0
  C = AreClosed s.functions n

  abbrev fill : List Tm → Fm → Fm
  fill = filled_formula

  take-front : (us ts : List Tm) → take (length us) (us ++ ts) ≡ us
  take-front [] ts = refl
  take-front (u ∷ us) ts = ap (λ l. u ∷ l) (take-front us ts)

  abbrev Takes : Fm → List Stage → Type 0
  Takes e st = TakesOff s l.theorems Q n e st g.target

  -- what is taken off a formula from here on, where these are the values of the binders before, and vs all of them
  record Taken (us vs : List Tm) (a : Fm) (hs : List Antecedent) (m : Matched) : Type 0 where
    pub stages : List Stage
    pub takes : Takes (fill us a) stages
    pub extra : List Antecedent
    pub split : m.form.antecedents ≡ hs ++ extra
    pub asks : asked stages ≡ map (antecedent_at vs) extra
    pub fitting : AllFit s n (asked stages)

  abbrev Ends : List Tm → Matched → Type 0
  Ends vs m = same_formula (fill vs m.form.rest) g.target ≡ true

  -- nothing more: the values are all there
  here : (us vs : List Tm) (a : Fm) (xs : List Name) (hs : List Antecedent) (m : Matched) → m.form ≡ stripped xs hs a → us ≡ vs → Ends vs m → Taken us vs a hs m
  here us vs a xs hs m is e end =
      record {
        stages = [];
        takes = subst (λ us. same_formula (fill us a) g.target ≡ true) (sym e) (subst (λ (f : Stripped). same_formula (fill vs f.rest) g.target ≡ true) is end);
        extra = [];
        split = ap (λ (f : Stripped). f.antecedents) is ∙ sym (append_nil hs);
        asks = refl;
        fitting = tt;
      }

  -- a list that is not longer than its front is the front
  front-all : (us ts vs : List Tm) (k : ℕ) → us ++ ts ≡ vs → length us ≡ k → length vs ≡ k → us ≡ vs
  front-all us [] vs k e l l' = sym (append_nil us) ∙ e
  front-all us (t ∷ ts) vs k e l l' = absurd (omega (arith, l, l', ap length e, length-append us (t ∷ ts)))

  module _ (m : Matched) (vs : List Tm) (cv : C vs) (long : length vs ≡ length m.form.binders) (end : Ends vs m) where
    abbrev Found_in : List Stripped → Type 0
    Found_in more = first_found (looks g.target) more ≡ Some m

    stop : (us ts : List Tm) (a : Fm) (xs : List Name) (hs : List Antecedent) → us ++ ts ≡ vs → length us ≡ length xs → Says g.target (stripped xs hs a) m → Taken us vs a hs m
    stop us ts a xs hs e lu k = here us vs a xs hs m k.0 (front-all us ts vs (length xs) e lu (long ∙ ap (λ (f : Stripped). length f.binders) k.0)) end

    end-at : (us ts : List Tm) (a : Fm) (xs : List Name) (hs : List Antecedent) → us ++ ts ≡ vs → length us ≡ length xs → Found_in (stripped xs hs a ∷ []) → Taken us vs a hs m
    end-at us ts a xs hs e lu k = stop us ts a xs hs e lu (last g.target (stripped xs hs a) m k)

    walk : (a : Fm) (us ts : List Tm) (xs : List Name) (hs : List Antecedent) → us ++ ts ≡ vs → C us → C ts → length us ≡ length xs → fits s n 0 (fill us a) ≡ true → Found_in (strippings xs hs a) → Taken us vs a hs m
    walk (all x a) us [] xs hs e cu ct lu f k =
        let none : List Tm = [] in
        ⊎_elim (stop us [] (all x a) xs hs e lu)
        (λ k. absurd (omega (arith, long, lu, ap length e, length-append us none, length-append xs (x ∷ []), grow g.target a (xs ++ x ∷ []) hs m k)))
        (either g.target (stripped xs hs (all x a)) (strippings (xs ++ x ∷ []) hs a) m k)
    walk (all x a) us (t ∷ ts) xs hs e cu ct lu f k =
        let b = filled_under s.functions n us a in
        let is : fill us (all x a) ≡ all x b = filled-all s.functions n us x a in
        let next : opened_formula t b ≡ fill (us ++ t ∷ []) a = filled-next s.functions n us t a cu ct.0 ∙ sym (filled-append s.functions n us (t ∷ []) a) in
        let fb : fits s n 1 b ≡ true = subst (λ c. fits s n 0 c ≡ true) is f in
        let fo : fits s n 0 (fill (us ++ t ∷ []) a) ≡ true = subst (λ c. fits s n 0 c ≡ true) next (fits-opened s n t b ct.0 fb) in
        ⊎_elim (stop us (t ∷ ts) (all x a) xs hs e lu)
        (λ k.
        let w = walk a (us ++ t ∷ []) ts (xs ++ x ∷ []) hs (append_assoc us (t ∷ []) ts ∙ e) (closed-append s.functions n us t cu ct.0) ct.1 (omega (arith, lu, length-append us (t ∷ []), length-append xs (x ∷ []))) fo k in
        record {
          stages = for_all b t ∷ w.stages;
          takes = ((x, is), fb, ct.0, subst (λ c. Takes c w.stages) (sym next) w.takes);
          extra = w.extra;
          split = w.split;
          asks = w.asks;
          fitting = w.fitting;
        })
        (either g.target (stripped xs hs (all x a)) (strippings (xs ++ x ∷ []) hs a) m k)
    walk (imp a b) us ts xs hs e cu ct lu f k =
        let one : Antecedent = record { binders = length xs; formula = a } in
        let is : fill us (imp a b) ≡ imp (fill us a) (fill us b) = filled-imp s.functions n us a b in
        let q = and_parts _ _ (subst (λ c. fits s n 0 c ≡ true) is f) in
        ⊎_elim (stop us ts (imp a b) xs hs e lu)
        (λ k.
        let w = walk b us ts xs (hs ++ one ∷ []) e cu ct lu q.1 k in
        let this : fill us a ≡ antecedent_at vs one = ap (λ us. fill us a) (sym (take-front us ts) ∙ ap (λ k. take k (us ++ ts)) lu ∙ ap (take (length xs)) e) in
        record {
          stages = where_so (fill us a) ∷ w.stages;
          takes = (fill us b, is, q.0, w.takes);
          extra = one ∷ w.extra;
          split = w.split ∙ append_assoc hs (one ∷ []) w.extra;
          asks = ap (λ c. c ∷ asked w.stages) this ∙ ap (λ l. antecedent_at vs one ∷ l) w.asks;
          fitting = (q.0, w.fitting);
        })
        (either g.target (stripped xs hs (imp a b)) (strippings xs (hs ++ one ∷ []) b) m k)
    walk falsum us ts xs hs e cu ct lu f k = end-at us ts falsum xs hs e lu k
    walk (eq t u) us ts xs hs e cu ct lu f k = end-at us ts (eq t u) xs hs e lu k
    walk (pred p vs') us ts xs hs e cu ct lu f k = end-at us ts (pred p vs') xs hs e lu k
    walk (and a b) us ts xs hs e cu ct lu f k = end-at us ts (and a b) xs hs e lu k
    walk (or a b) us ts xs hs e cu ct lu f k = end-at us ts (or a b) xs hs e lu k
    walk (ex x a) us ts xs hs e cu ct lu f k = end-at us ts (ex x a) xs hs e lu k

  -- the new goals
  goals-are : (hs : List Fm) (rest : List Sequent) → sequents s l.theorems Q n h hs rest ≡ map (λ a. at n h a) hs ++ rest
  goals-are [] rest = refl
  goals-are (a ∷ hs) rest = ap (λ l. at n h a ∷ l) (goals-are hs rest)

  all-fitting : (hs : List Fm) → AllFit s n hs → AllFitting s (map (λ a. at n h a) hs)
  all-fitting [] f = tt
  all-fitting (a ∷ hs) f = ((fit.0, f.0), all-fitting hs f.1)

  few-are : (hs : List Fm) → FewVars (n + 1) (map (λ a. at n h a) hs)
  few-are [] = tt
  few-are (a ∷ hs) = (omega arith, few-are hs)

  targets-are : (vs : List Tm) (hs : List Antecedent) → map (λ a. at n h a) (map (antecedent_at vs) hs) ≡ map sequent (map (λ x. aimed (antecedent_at vs x) g) hs)
  targets-are vs [] = refl
  targets-are vs (x ∷ hs) = ap (λ l. at n h (antecedent_at vs x) ∷ l) (targets-are vs hs)

  -- `apply e`
  pub works-apply : (e : Expression) → Works l g (rewriting.apply l g e)
  works-apply e new q =
      let x = then-ok (given l g e) (λ a. and_then (wanted (fewest a g.target) NoInstance) (rewriting.applied g)) new q in
      let y = then-ok (wanted (fewest x.0 g.target) NoInstance) (rewriting.applied g) new x.2 in
      let m = y.0 in
      let z = then-ok (fixed m.form.binders m.values) (λ ts. Ok (map (λ h. aimed (antecedent_at ts h) g) m.form.antecedents)) new y.2 in
      let vs = z.0 in
      let there = wanted-ok (fewest x.0 g.target) NoInstance m y.1 in
      let says = says-found x.0 m [] [] there in
      let i = instance-is s n m.form.rest (length m.form.binders) g.target m.values fit.1 says in
      let k = fixed-ok s.functions n m.form.binders m.values vs (sym i.1) i.0 z.1 in
      let has = given-has l ok g fit e x.0 (tried-ok (gives l g e) x.0 x.1) in
      let end : Ends vs m = subst (λ ts. same_formula (fill ts m.form.rest) g.target ≡ true) k.2 i.2 in
      let w = walk m vs k.0 k.1 end x.0 [] vs [] [] refl tt k.0 refl has.fitting there in
      let goals : map (λ a. at n h a) (asked w.stages) ≡ map sequent new =
      ap (map (λ a. at n h a)) w.asks ∙ targets-are vs w.extra ∙ ap (λ hs. map sequent (map (λ x. aimed (antecedent_at vs x) g) hs)) (sym w.split) ∙ ap (map sequent) (cc) in (
        applied w.stages has.proof ∷ [],
        record {
          turns = λ rest ps a. turn-apply s l.theorems Q n h rest w.stages x.0 g.target has.proof has.proves w.takes ps
              (subst (λ gs. Rattle.pg_moves.specs.Proofs.AllProve s l.theorems Q gs ps) (sym (goals-are (asked w.stages) rest ∙ ap (λ gs. gs ++ rest) goals)) a);
          fitting = subst (AllFitting s) goals (all-fitting (asked w.stages) w.fitting);
          few = subst (FewVars (n + 1)) goals (few-are (asked w.stages));
        },
      )
    where
      says-found : (a : Fm) (m : Matched) (xs : List Name) (hs : List Antecedent) → first_found (looks g.target) (strippings xs hs a) ≡ Some m → formula_instance m.form.rest (length m.form.binders) g.target ≡ Some m.values
      says-found (all x a) m xs hs k =
          ⊎_elim (λ (k : Says g.target (stripped xs hs (all x a)) m). k.1) (says-found a m (xs ++ x ∷ []) hs) (either g.target (stripped xs hs (all x a)) (strippings (xs ++ x ∷ []) hs a) m k)
      says-found (imp a b) m xs hs k =
          let hs' = hs ++ record { binders = length xs; formula = a } ∷ [] in
          ⊎_elim (λ (k : Says g.target (stripped xs hs (imp a b)) m). k.1) (says-found b m xs hs') (either g.target (stripped xs hs (imp a b)) (strippings xs hs' b) m k)
      says-found falsum m xs hs k = (last g.target (stripped xs hs falsum) m k).1
      says-found (eq t u) m xs hs k = (last g.target (stripped xs hs (eq t u)) m k).1
      says-found (pred p ts) m xs hs k = (last g.target (stripped xs hs (pred p ts)) m k).1
      says-found (and a b) m xs hs k = (last g.target (stripped xs hs (and a b)) m k).1
      says-found (or a b) m xs hs k = (last g.target (stripped xs hs (or a b)) m k).1
      says-found (ex x a) m xs hs k = (last g.target (stripped xs hs (ex x a)) m k).1

  -- `apply e at h`
  pub works-apply_at : (e : Expression) (x : Word) → Works l g (apply_at l g e x)
  works-apply_at e x new q =
      let y = then-ok (hypothesis_there g x) (λ f. and_then (given l g e) (λ a. and_then (forward (unbound [] a) (unbound [] a).rest f.hyp.formula) (λ b. Ok (changed_to g f b ∷ [])))) new q in
      let f = y.0 in
      let there = found-there g x.text f (wanted-ok (hypothesis g x.text) (NoSuchName x.at) f y.1) in
      let z = then-ok (given l g e) (λ a. and_then (forward (unbound [] a) (unbound [] a).rest f.hyp.formula) (λ b. Ok (changed_to g f b ∷ []))) new y.2 in
      let a = z.0 in
      let w = then-ok (forward (unbound [] a) (unbound [] a).rest f.hyp.formula) (λ b. Ok (changed_to g f b ∷ [])) new z.2 in
      go f there a (given-has l ok g fit e a (tried-ok (gives l g e) a z.1)) (unbound [] a).rest refl w.0 w.1 (cc)
    where
      go : (f : Found) → slice_get h f.number ≡ Some f.hyp.formula → (a : Fm) → Has l g a → (c : Fm) → (unbound [] a).rest ≡ c → (b : Fm) → forward (unbound [] a) c f.hyp.formula ≡ Ok b → changed_to g f b ∷ [] ≡ new → (fs : List Frame) × Good l (sequent g) (map sequent new) fs
      go f there a k (imp p r) is b e r' =
          let form = unbound [] a in
          let subject = f.hyp.formula in
          let v = then-ok (wanted (formula_instance p (length form.binders) subject) NoInstance) (λ vs. and_then (fixed form.binders vs) (λ ts. Ok (fill ts r))) b e in
          let u = then-ok (fixed form.binders v.0) (λ ts. Ok (fill ts r)) b v.2 in
          let i = instance-is s n p (length form.binders) subject v.0 (fit_at s n h f.number subject fit.0 there) (wanted-ok (formula_instance p (length form.binders) subject) NoInstance v.0 v.1) in
          let j = fixed-ok s.functions n form.binders v.0 u.0 (sym i.1) i.0 u.1 in
          let has = by-unbound l ok g fit [] [] a u.0 tt j.0 (omega (arith, j.1)) k in
          let has' = subst (Has l g) (ap (fill u.0) is ∙ filled-imp s.functions n u.0 p r) has in
          let same : same_formula (fill u.0 p) subject ≡ true = subst (λ ts. same_formula (fill ts p) subject ≡ true) j.2 i.2 in
          let fr = (and_parts _ _ has'.fitting).1 in
          let fp = fit_at s n h f.number subject fit.0 there in
          let d = impe subject has'.proof (hyp f.number) in
          let out : fill u.0 r ≡ b = cc in (
            _,
            changed l ok g fit f b new d r' (subst (λ c. fits s n 0 c ≡ true) out fr)
                (subst (λ c. Proves s l.theorems Q n h c d) out
                (by_impe s l.theorems Q n h subject (fill u.0 r) has'.proof (hyp f.number) fp (has'.proves (imp subject (fill u.0 r)) (and_from _ _ same (same_formula-refl (fill u.0 r))))
                (from_gives s l.theorems Q n h subject (hyp f.number) (by_hyp s l.theorems Q n h f.number subject there)))),
          )
      go f there a k _ is b e r' = absurd (cc)
