-- The stages of `apply`: what they take off, and what they ask for.
use Rattle.std.proofs.Common.{◌≡◌, ℕ, zero, suc, ◌+◌, ◌≤◌, ◌⊎◌, List, [], ◌∷◌, ◌++◌, length, map, take, true, false, Option, Some, None, refl, arith, ap, sym, ◌∙◌, subst, length-append, append_assoc, ⊎_elim, inl, inr}
use Rattle.std.proofs.lemmas.Bool.{and_parts}
use Rattle.pg_logic.specs.Tree.{Tm, Fm, falsum, eq, pred, and, or, imp, all, ex, same_formula, opened_formula}
use Rattle.pg_logic.specs.Signature.{Function, Signature, fits}
use Rattle.pg_logic.specs.Declarations.{Name}
use Rattle.pg_logic.proofs.Fitting.{fits-opened}
use Rattle.pg_moves.specs.Frames.{Stage, asked}
use Rattle.pg_moves.specs.Instances.{Values, filled_formula, formula_instance, first_found}
use Rattle.pg_moves.specs.Stripped.{Antecedent, Stripped, stripped, strippings, Matched, with_values, antecedent_at}
use Rattle.pg_moves.proofs.Applied.{looks}
use Rattle.pg_moves.proofs.ByRecursion.{AllFit}
use Rattle.pg_moves.proofs.Filled.{AreClosed, filled_under, filled-all, filled-imp, filled-next, filled-append}
use Rattle.pg_moves.proofs.Moved.{append_nil, TakesOff}
use Rattle.pg_moves.proofs.Rewritten.{closed-append}
use Rattle.pg_rewrites.specs.Applying.{steps_of, stages, antecedents}
use Rattle.pg_rewrites.specs.Searching.{strips}
use Rattle.pg_rewrites.proofs.Making.{plain-stages}
use Rattle.pg_rewrites.specs.Taking.{binder_names}

-- what is found says how the formula was stripped
abbrev pub Says : Fm → Stripped → Matched → Type 0
Says subject st m = (m.form ≡ st) × (formula_instance m.form.rest (length m.form.binders) subject ≡ Some m.values)

looks-say : (subject : Fm) (st : Stripped) (m : Matched) → looks subject st ≡ Some m → Says subject st m
looks-say subject st m e = go (formula_instance st.rest (length st.binders) subject) refl e
  where
    go : (o : Option Values) → formula_instance st.rest (length st.binders) subject ≡ o → with_values st o ≡ Some m → Says subject st m
    go None is e = absurd (cc)
    go (Some vs) is e = let q : record { form = st; values = vs } ≡ m = cc in subst (Says subject st) q (refl, is)

-- found here, or behind
either : (subject : Fm) (st : Stripped) (more : List Stripped) (m : Matched) → first_found (looks subject) (st ∷ more) ≡ Some m → Says subject st m ⊎ (first_found (looks subject) more ≡ Some m)
either subject st more m e = go (looks subject st) refl e
  where
    go : (o : Option Matched) → looks subject st ≡ o → (elim o [ Some y ↦ Some y | None ↦ first_found (looks subject) more ]) ≡ Some m → Says subject st m ⊎ (first_found (looks subject) more ≡ Some m)
    go (Some y) is e = inl (looks-say subject st m (is ∙ e))
    go None is e = inr e

-- nothing more is to be stripped
last : (subject : Fm) (st : Stripped) (m : Matched) → first_found (looks subject) (st ∷ []) ≡ Some m → Says subject st m
last subject st m e = ⊎_elim (λ x. x) (λ (y : None ≡ Some m). absurd (cc)) (either subject st [] m e)

-- what is known of what is found: the values are those of an instance, and the binders are the first ones
pub record Finding (subject : Fm) (xs : List Name) (hs : List Antecedent) (a : Fm) (m : Matched) : Type 0 where
  pub values : formula_instance m.form.rest (length m.form.binders) subject ≡ Some m.values
  pub binders : length xs ≤ length m.form.binders
  pub antecedents : length hs ≤ length m.form.antecedents
  pub behind : List Name
  pub names : m.form.binders ++ behind ≡ xs ++ binder_names a

found-here : (subject : Fm) (xs : List Name) (hs : List Antecedent) (a : Fm) (m : Matched) → Says subject (stripped xs hs a) m → Finding subject xs hs a m
found-here subject xs hs a m k =
    record {
      values = k.1;
      binders = omega (arith, ap (λ (f : Stripped). length f.binders) k.0);
      antecedents = omega (arith, ap (λ (f : Stripped). length f.antecedents) k.0);
      behind = binder_names a;
      names = ap (λ (f : Stripped). f.binders ++ binder_names a) k.0;
    }

pub finding : (subject : Fm) (xs : List Name) (hs : List Antecedent) (a : Fm) (m : Matched) → first_found (looks subject) (strippings xs hs a) ≡ Some m → Finding subject xs hs a m
finding subject xs hs (all x a) m e =
    ⊎_elim (found-here subject xs hs (all x a) m)
    (λ k.
    let w = finding subject (xs ++ x ∷ []) hs a m k in
    record {
      values = w.values;
      binders = omega (arith, w.binders, length-append xs (x ∷ []));
      antecedents = w.antecedents;
      behind = w.behind;
      names = w.names ∙ append_assoc xs (x ∷ []) (binder_names a);
    })
    (either subject (stripped xs hs (all x a)) (strippings (xs ++ x ∷ []) hs a) m e)
finding subject xs hs (imp a b) m e =
    let one : Antecedent = record { binders = length xs; formula = a } in
    ⊎_elim (found-here subject xs hs (imp a b) m)
    (λ k.
    let w = finding subject xs (hs ++ one ∷ []) b m k in
    record {
      values = w.values;
      binders = w.binders;
      antecedents = omega (arith, w.antecedents, length-append hs (one ∷ []));
      behind = w.behind;
      names = w.names;
    })
    (either subject (stripped xs hs (imp a b)) (strippings xs (hs ++ one ∷ []) b) m e)
finding subject xs hs falsum m e = found-here subject xs hs falsum m (last subject (stripped xs hs falsum) m e)
finding subject xs hs (eq t u) m e = found-here subject xs hs (eq t u) m (last subject (stripped xs hs (eq t u)) m e)
finding subject xs hs (pred p ts) m e = found-here subject xs hs (pred p ts) m (last subject (stripped xs hs (pred p ts)) m e)
finding subject xs hs (and a b) m e = found-here subject xs hs (and a b) m (last subject (stripped xs hs (and a b)) m e)
finding subject xs hs (or a b) m e = found-here subject xs hs (or a b) m (last subject (stripped xs hs (or a b)) m e)
finding subject xs hs (ex x a) m e = found-here subject xs hs (ex x a) m (last subject (stripped xs hs (ex x a)) m e)

module _ (s : Signature) (th : List Fm) (Q : ℕ → Type 0) (n : ℕ) (target : Fm) where
  abbrev C : List Tm → Type 0
  C = AreClosed s.functions n

  abbrev fill : List Tm → Fm → Fm
  fill = filled_formula

  -- what these stages take off a formula, where these are all values
  pub record Staged (vs : List Tm) (a : Fm) (hs : List Antecedent) (m : Matched) (st : List Stage) : Type 0 where
    pub takes : TakesOff s th Q n a st target
    pub extra : List Antecedent
    pub split : m.form.antecedents ≡ hs ++ extra
    pub asks : asked st ≡ map (antecedent_at vs) extra
    pub fitting : AllFit s n (asked st)

  abbrev Ends : List Tm → Matched → Type 0
  Ends vs m = same_formula (fill vs m.form.rest) target ≡ true

  -- nothing more: the values are all there
  here : (us vs : List Tm) (a : Fm) (xs : List Name) (hs : List Antecedent) (m : Matched) → m.form ≡ stripped xs hs a → us ≡ vs → Ends vs m → Staged vs (fill us a) hs m []
  here us vs a xs hs m is e end =
      record {
        takes = subst (λ us. same_formula (fill us a) target ≡ true) (sym e) (subst (λ (f : Stripped). same_formula (fill vs f.rest) target ≡ true) is end);
        extra = [];
        split = ap (λ (f : Stripped). f.antecedents) is ∙ sym (append_nil hs);
        asks = refl;
        fitting = tt;
      }

  -- a list that is not longer than its front is the front
  front-all : (us ts vs : List Tm) (k : ℕ) → us ++ ts ≡ vs → length us ≡ k → length vs ≡ k → us ≡ vs
  front-all us [] vs k e l l' = sym (append_nil us) ∙ e
  front-all us (t ∷ ts) vs k e l l' = absurd (omega (arith, l, l', ap length e, length-append us (t ∷ ts)))

  take-front : (us ts : List Tm) → take (length us) (us ++ ts) ≡ us
  take-front [] ts = refl
  take-front (u ∷ us) ts = ap (λ l. u ∷ l) (take-front us ts)

  module _ (m : Matched) (vs : List Tm) (long : length vs ≡ length m.form.binders) (end : Ends vs m) where
    -- so many steps are left
    abbrev Left : ℕ → List Name → List Antecedent → Type 0
    Left k xs hs = steps_of m.form ≡ length xs + length hs + k

    abbrev Found_in : List Stripped → Type 0
    Found_in more = first_found (looks target) more ≡ Some m

    stop : (k : ℕ) (us ts : List Tm) (a : Fm) (xs : List Name) (hs : List Antecedent) → us ++ ts ≡ vs → length us ≡ length xs → Left k xs hs → Says target (stripped xs hs a) m → Staged vs (fill us a) hs m (stages k ts (fill us a))
    stop zero us ts a xs hs e lu left k = here us vs a xs hs m k.0 (front-all us ts vs (length xs) e lu (long ∙ ap (λ (f : Stripped). length f.binders) k.0)) end
    stop (suc j) us ts a xs hs e lu left k = absurd (omega (arith, left, ap (λ (f : Stripped). length f.binders) k.0, ap (λ (f : Stripped). length f.antecedents) k.0))

    end-at : (k : ℕ) (us ts : List Tm) (a : Fm) (xs : List Name) (hs : List Antecedent) → us ++ ts ≡ vs → length us ≡ length xs → Left k xs hs → Found_in (stripped xs hs a ∷ []) → Staged vs (fill us a) hs m (stages k ts (fill us a))
    end-at k us ts a xs hs e lu left f = stop k us ts a xs hs e lu left (last target (stripped xs hs a) m f)

    walk : (k : ℕ) (a : Fm) (us ts : List Tm) (xs : List Name) (hs : List Antecedent) → us ++ ts ≡ vs → C us → C ts → length us ≡ length xs → fits s n 0 (fill us a) ≡ true → Left k xs hs → Found_in (strippings xs hs a) →
        Staged vs (fill us a) hs m (stages k ts (fill us a))
    walk k (all x a) us [] xs hs e cu ct lu f left there =
        let none : List Tm = [] in
        ⊎_elim (stop k us [] (all x a) xs hs e lu left)
        (λ w. absurd (omega (arith, long, lu, ap length e, length-append us none, length-append xs (x ∷ []), (finding target (xs ++ x ∷ []) hs a m w).binders)))
        (either target (stripped xs hs (all x a)) (strippings (xs ++ x ∷ []) hs a) m there)
    walk zero (all x a) us (t ∷ ts) xs hs e cu ct lu f left there =
        ⊎_elim (stop zero us (t ∷ ts) (all x a) xs hs e lu left)
        (λ w. let q = finding target (xs ++ x ∷ []) hs a m w in absurd (omega (arith, left, length-append xs (x ∷ []), q.binders, q.antecedents)))
        (either target (stripped xs hs (all x a)) (strippings (xs ++ x ∷ []) hs a) m there)
    walk (suc k) (all x a) us (t ∷ ts) xs hs e cu ct lu f left there =
        let b = filled_under s.functions n us a in
        let is : fill us (all x a) ≡ all x b = filled-all s.functions n us x a in
        let next : opened_formula t b ≡ fill (us ++ t ∷ []) a = filled-next s.functions n us t a cu ct.0 ∙ sym (filled-append s.functions n us (t ∷ []) a) in
        let fb : fits s n 1 b ≡ true = subst (λ c. fits s n 0 c ≡ true) is f in
        let fo : fits s n 0 (fill (us ++ t ∷ []) a) ≡ true = subst (λ c. fits s n 0 c ≡ true) next (fits-opened s n t b ct.0 fb) in
        ⊎_elim (stop (suc k) us (t ∷ ts) (all x a) xs hs e lu left)
        (λ w.
        let left' : Left k (xs ++ x ∷ []) hs = omega (arith, left, length-append xs (x ∷ [])) in
        let r = walk k a (us ++ t ∷ []) ts (xs ++ x ∷ []) hs (append_assoc us (t ∷ []) ts ∙ e) (closed-append s.functions n us t cu ct.0) ct.1 (omega (arith, lu, length-append us (t ∷ []), length-append xs (x ∷ []))) fo left' w in
        let r' : Staged vs (opened_formula t b) hs m (stages k ts (opened_formula t b)) = subst (λ c. Staged vs c hs m (stages k ts c)) (sym next) r in
        let made : Staged vs (all x b) hs m (stages (suc k) (t ∷ ts) (all x b)) = record { takes = ((x, refl), fb, ct.0, r'.takes); extra = r'.extra; split = r'.split; asks = r'.asks; fitting = r'.fitting } in
        subst (λ c. Staged vs c hs m (stages (suc k) (t ∷ ts) c)) (sym is) made)
        (either target (stripped xs hs (all x a)) (strippings (xs ++ x ∷ []) hs a) m there)
    walk zero (imp a b) us ts xs hs e cu ct lu f left there =
        let one : Antecedent = record { binders = length xs; formula = a } in
        ⊎_elim (stop zero us ts (imp a b) xs hs e lu left)
        (λ w. let q = finding target xs (hs ++ one ∷ []) b m w in absurd (omega (arith, left, length-append hs (one ∷ []), q.binders, q.antecedents)))
        (either target (stripped xs hs (imp a b)) (strippings xs (hs ++ one ∷ []) b) m there)
    walk (suc k) (imp a b) us ts xs hs e cu ct lu f left there =
        let one : Antecedent = record { binders = length xs; formula = a } in
        let is : fill us (imp a b) ≡ imp (fill us a) (fill us b) = filled-imp s.functions n us a b in
        let q = and_parts _ _ (subst (λ c. fits s n 0 c ≡ true) is f) in
        ⊎_elim (stop (suc k) us ts (imp a b) xs hs e lu left)
        (λ w.
        let left' : Left k xs (hs ++ one ∷ []) = omega (arith, left, length-append hs (one ∷ [])) in
        let r = walk k b us ts xs (hs ++ one ∷ []) e cu ct lu q.1 left' w in
        let this : fill us a ≡ antecedent_at vs one = ap (λ us. fill us a) (sym (take-front us ts) ∙ ap (λ k. take k (us ++ ts)) lu ∙ ap (take (length xs)) e) in
        let made : Staged vs (imp (fill us a) (fill us b)) hs m (stages (suc k) ts (imp (fill us a) (fill us b))) =
        record {
          takes = (fill us b, refl, q.0, r.takes);
          extra = one ∷ r.extra;
          split = r.split ∙ append_assoc hs (one ∷ []) r.extra;
          asks = ap (λ c. c ∷ asked (stages k ts (fill us b))) this ∙ ap (λ l. antecedent_at vs one ∷ l) r.asks;
          fitting = (q.0, r.fitting);
        } in
        subst (λ c. Staged vs c hs m (stages (suc k) ts c)) (sym is) made)
        (either target (stripped xs hs (imp a b)) (strippings xs (hs ++ one ∷ []) b) m there)
    walk k falsum us ts xs hs e cu ct lu f left there = end-at k us ts falsum xs hs e lu left there
    walk k (eq t u) us ts xs hs e cu ct lu f left there = end-at k us ts (eq t u) xs hs e lu left there
    walk k (pred p vs') us ts xs hs e cu ct lu f left there = end-at k us ts (pred p vs') xs hs e lu left there
    walk k (and a b) us ts xs hs e cu ct lu f left there = end-at k us ts (and a b) xs hs e lu left there
    walk k (or a b) us ts xs hs e cu ct lu f left there = end-at k us ts (or a b) xs hs e lu left there
    walk k (ex x a) us ts xs hs e cu ct lu f left there = end-at k us ts (ex x a) xs hs e lu left there

    pub staged : (a : Fm) → C vs → fits s n 0 a ≡ true → Found_in (strippings [] [] a) → Staged vs a [] m (stages (steps_of m.form) vs a)
    staged a cv f there = walk (steps_of m.form) a [] vs [] [] refl tt cv refl f (omega arith) there

-- ---- what is asked for, read off the formula with its holes

strips-opened : (t : Tm) (a : Fm) → strips (opened_formula t a) ≡ strips a
strips-opened t falsum = refl
strips-opened t (eq u v) = refl
strips-opened t (pred p us) = refl
strips-opened t (and a b) = refl
strips-opened t (or a b) = refl
strips-opened t (imp a b) = refl
strips-opened t (all x a) = refl
strips-opened t (ex x a) = refl

strips-filled : (ts : List Tm) (a : Fm) → strips (filled_formula ts a) ≡ strips a
strips-filled [] a = refl
strips-filled (t ∷ ts) a = strips-opened t (filled_formula ts a) ∙ strips-filled ts a

module _ (fs : List Function) (n : ℕ) where
  abbrev Asked : ℕ → (before after : List Tm) → Fm → Type 0
  Asked k before after a = asked (stages k after (filled_formula before a)) ≡ antecedents k before after a

  asked-plain : (k : ℕ) (before after : List Tm) (a : Fm) → strips a ≡ false → antecedents k before after a ≡ [] → Asked k before after a
  asked-plain k before after a e none = ap asked (plain-stages k after (filled_formula before a) (strips-filled before a ∙ e)) ∙ sym none

  pub asked-filled : (k : ℕ) (before after : List Tm) (a : Fm) → AreClosed fs n before → AreClosed fs n after → Asked k before after a
  asked-filled zero before after a cb ca = refl
  asked-filled (suc k) before after (imp a b) cb ca =
      ap (λ c. asked (stages (suc k) after c)) (filled-imp fs n before a b) ∙ ap (λ l. filled_formula before a ∷ l) (asked-filled k before after b cb ca)
  asked-filled (suc k) before [] (all x a) cb ca = ap (λ c. asked (stages (suc k) [] c)) (filled-all fs n before x a)
  asked-filled (suc k) before (t ∷ after) (all x a) cb ca =
      let b = filled_under fs n before a in
      let next : opened_formula t b ≡ filled_formula (before ++ t ∷ []) a = filled-next fs n before t a cb ca.0 ∙ sym (filled-append fs n before (t ∷ []) a) in
      ap (λ c. asked (stages (suc k) (t ∷ after) c)) (filled-all fs n before x a) ∙ ap (λ c. asked (stages k after c)) next
      ∙ asked-filled k (before ++ t ∷ []) after a (closed-append fs n before t cb ca.0) ca.1
  asked-filled (suc k) before after falsum cb ca = asked-plain (suc k) before after falsum refl refl
  asked-filled (suc k) before after (eq u v) cb ca = asked-plain (suc k) before after (eq u v) refl refl
  asked-filled (suc k) before after (pred p us) cb ca = asked-plain (suc k) before after (pred p us) refl refl
  asked-filled (suc k) before after (and a b) cb ca = asked-plain (suc k) before after (and a b) refl refl
  asked-filled (suc k) before after (or a b) cb ca = asked-plain (suc k) before after (or a b) refl refl
  asked-filled (suc k) before after (ex x a) cb ca = asked-plain (suc k) before after (ex x a) refl refl
