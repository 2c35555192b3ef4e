-- From what is given, and the terms of an instance, to what the acts do.
use Rattle.std.proofs.Common.{◌≡◌, ℕ, ◌+◌, List, [], ◌∷◌, ◌++◌, length, map, Bool, true, false, Some, None, refl, arith, ap, sym, ◌∙◌, subst}
use Rattle.std.specs.Prelude.{Option, Result, Ok, Err, option_map, ◌≤◌}
use Rattle.std.proofs.lemmas.Bool.{and_parts, and_from}
use Rattle.pg_base.specs.Tokens.{Word}
use Rattle.pg_logic.specs.Tree.{Tm, free, bound, nought, succ, app, Fm, falsum, eq, pred, and, or, imp, all, ex, same_formula, opened_formula, nodes_of}
use Rattle.pg_logic.specs.Signature.{Signature, fits, fits_term}
use Rattle.pg_logic.specs.Declarations.{signature_of}
use Rattle.pg_logic.specs.Kernel.{Pf, hyp, impe, repl}
use Rattle.pg_script.specs.Data.{Expression, Rule}
use Rattle.pg_moves.specs.Acts.{Act, Apply, ApplyAt, Rewrite, RewriteAt}
use Rattle.pg_moves.specs.Assuming.{Found, hypothesis, changed_to}
use Rattle.pg_moves.specs.Causes.{Cause, Tried, WrongShape, NoInstance, NoSuchName, and_then, wanted}
use Rattle.pg_moves.specs.Closing.{given}
use Rattle.pg_moves.specs.Frames.{Stage, asked, Frame, applied, cut, flipped, Turns}
use Rattle.pg_moves.specs.Frames as frames
use Rattle.pg_moves.specs.Goals.{Goal, aimed}
use Rattle.pg_moves.specs.Instances.{filled, filled_formula, formula_instance, first_instance}
use Rattle.pg_moves.specs.Lookup.{Lookup, IsAvailable}
use Rattle.pg_moves.specs.Proofs.{Sequent, Proves, AllProve, hyp_formula, sequent}
use Rattle.pg_moves.specs.Replaced.{replaced_formula, abstracted_formula}
use Rattle.pg_moves.specs.Rewriting.{Sides, sides, not_bare, no_binder, exchanged, rewritten_by, rewritten, forward}
use Rattle.pg_moves.specs.Rewriting as rewriting
use Rattle.pg_moves.specs.Steps.{new_goals}
use Rattle.pg_moves.specs.Stripped.{Antecedent, Stripped, fewest, fixed, unbound, antecedent_at}
use Rattle.pg_moves.proofs.Applied.{instance-is}
use Rattle.pg_moves.proofs.ByRecursion.{AllFit, AllFitting, Fits}
use Rattle.pg_moves.proofs.Filled.{filled-imp, filled-eq}
use Rattle.pg_moves.proofs.Fitted.{fits-replaced}
use Rattle.pg_moves.proofs.Given.{Sound, fit_at}
use Rattle.pg_moves.proofs.Good.{FewVars, Good, one_goal}
use Rattle.pg_moves.proofs.Hypothetical.{found-there, changed}
use Rattle.pg_moves.proofs.Moved.{sequents, turn-apply, by_flipped}
use Rattle.pg_moves.proofs.Replaced.{put_back_formula, unchanged_formula, fits-abstracted}
use Rattle.pg_moves.proofs.Rewritten.{fixed-ok}
use Rattle.pg_moves.proofs.Rules.{gives as from_gives, by_hyp, by_impe, by_repl, same_formula-refl}
use Rattle.pg_moves.proofs.Sequents.{then-ok, wanted-ok}
use Rattle.pg_moves.proofs.Turning.{at, turn-rewrite}
use Rattle.pg_goal.specs.Conditions.{IsProved}
use Rattle.pg_frames.specs.View.{frames_of}
use Rattle.pg_reduction.specs.declared.cause.ActFault.{ActFault}
use Rattle.pg_reduction.specs.declared.cause.ActFault.TheVariants.{Stop, OutOfMemory}
use Rattle.pg_reduction.specs.declared.reduction.Reduction.{Reduction}
use Rattle.pg_reduction.specs.Doing.{IsReady, Reduces, DoesWithin, StopsWithin, Has, Yields}
use Rattle.pg_reduction.specs.Limits.{Tells, IsFirst, large_nodes}
use Rattle.pg_reduction.specs.View.{cause_of}
use Rattle.pg_reduction.specs.declared.cause.Cause as rust
use Rattle.pg_moves.specs.Measures.{first_over, formula_measures, goal_measures}
use Rattle.pg_reduction.proofs.Does as does
use Rattle.pg_rewrites.specs.Applying.{Applies, Asks, Fit, steps_of, fitted, fit, stages, antecedents, asking, forward_terms, detached, detached_at, forwarded}
use Rattle.pg_rewrites.specs.Measuring.{Forms, IsLarge, IsSmall}
use Rattle.pg_rewrites.specs.declared.measuring.Refusal.{Refusal}
use Rattle.pg_rewrites.specs.declared.measuring.Refusal.TheVariants.{Large, Fault}
use Rattle.pg_rewrites.specs.Rewriting.{Equation, cutting, exchanged_at, instance_terms, rule_terms, equated, equated_at, equation, rewritten_in, new_is_old, old_is_new, rewriting as rewriting_frames, reworded}
use Rattle.pg_rewrites.specs.Taking.{Claim, taken_at}
use Rattle.pg_rewrites.proofs.Staged.{finding, staged, asked-filled}
use Rattle.pg_rewrites.proofs.Taken.{taken-proved, taken-filled}
use Rattle.pg_rewrites.proofs.Values.{first-fixes, fit-tight}
use Rattle.pg_reduction.proofs.Passed.{limit-target, limit-hypothesis, count-large, count-small, limit-small}

-- ---- results

-- what stops here stops there
then-err : {X Y Z E : Type 0} (x : Result X E) (f : X → Result Y E) (h : X → Result Z E) (c : E) → ((y : X) → f y ≡ Err c → h y ≡ Err c) → and_then x f ≡ Err c → and_then x h ≡ Err c
then-err (Ok y) f h c go e = go y e
then-err (Err d) f h c go e = let q : d ≡ c = cc in ap Err q

ok-err : {X E : Type 0} (x : X) (c : E) → Ok x ≡ Err c → ⊥
ok-err x c e = absurd (cc)

asked-goals : (g : Goal) (ts : List Tm) (hs : List Antecedent) → map (λ a. aimed a g) (map (antecedent_at ts) hs) ≡ map (λ h. aimed (antecedent_at ts h) g) hs
asked-goals g ts [] = refl
asked-goals g ts (h ∷ hs) = ap (λ l. aimed (antecedent_at ts h) g ∷ l) (asked-goals g ts hs)

no-binder : (z y : Sides) → no_binder z ≡ Ok y → z ≡ y
no-binder z y e = go z.old e
  where
    go : (t : Tm) → not_bare t z ≡ Ok y → z ≡ y
    go (bound i) e = absurd (cc)
    go (free i) e = cc
    go nought e = cc
    go (succ t) e = cc
    go (app f ts) e = cc

module _ (l : Lookup) (g : Goal) (ready : IsReady l g) where
  ok : Sound l
  ok = does.ok l g ready

  fit-goal : Fits (signature_of l.declared) (sequent g)
  fit-goal = does.fit l g ready

  abbrev s : Signature
  s = signature_of l.declared

  abbrev n : ℕ
  n = length g.vars

  abbrev hs : List Fm
  hs = map hyp_formula g.hyps

  abbrev Q : ℕ → Type 0
  Q = IsAvailable l

  abbrev J : List Goal → List Frame → Type 0
  J = does.J l g ready

  done : (act : Act) (new : List Goal) (fs : List Frame) → new_goals l g act ≡ Ok new → J new fs → (r : Reduction) → Has new fs r → Reduces l g act r
  done act new fs is j r h = record { goals = is ∙ ap Ok (sym h.0); justified = subst (λ new. J new (frames_of r.frames)) (sym h.0) (subst (J new) (sym h.1) j) }

  -- ---- `apply e`

  few-are : (cs : List Fm) → FewVars (n + 1) (map (λ a. at n hs a) cs)
  few-are [] = tt
  few-are (a ∷ cs) = (omega arith, few-are cs)

  all-fitting : (cs : List Fm) → AllFit s n cs → AllFitting s (map (λ a. at n hs a) cs)
  all-fitting [] f = tt
  all-fitting (a ∷ cs) f = ((fit-goal.0, f.0), all-fitting cs f.1)

  goals-are : (cs : List Fm) (rest : List Sequent) → sequents s l.theorems Q n hs cs rest ≡ map (λ a. at n hs a) cs ++ rest
  goals-are [] rest = refl
  goals-are (a ∷ cs) rest = ap (λ l. at n hs a ∷ l) (goals-are cs rest)

  targets-are : (cs : List Fm) → map (λ a. at n hs a) cs ≡ map sequent (map (λ a. aimed a g) cs)
  targets-are [] = refl
  targets-are (a ∷ cs) = ap (λ l. at n hs a ∷ l) (targets-are cs)

  abbrev Takes : Expression → Fm → Pf → Fit → Type 0
  Takes e a p f = (new_goals l g (Apply e) ≡ Ok (asking g (stages f.steps f.terms a))) × J (asking g (stages f.steps f.terms a)) (applied (stages f.steps f.terms a) p ∷ [])

  applies : (e : Expression) (a : Fm) (p : Pf) → given l g e ≡ Ok a → IsProved l g a p → (f : Fit) → fit a g.target ≡ Ok f → Takes e a p f
  unfolding new_goals
  applies e a p is known f made =
      let y = then-ok (wanted (fewest a g.target) NoInstance) fitted f made in
      let m = y.0 in
      let z = then-ok (fixed m.form.binders m.values) (λ ts. Ok (record { terms = ts; steps = steps_of m.form })) f y.2 in
      let ts = z.0 in
      let there = wanted-ok (fewest a g.target) NoInstance m y.1 in
      let k = finding g.target [] [] a m there in
      let i = instance-is s n m.form.rest (length m.form.binders) g.target m.values fit-goal.1 k.values in
      let c = fixed-ok s.functions n m.form.binders m.values ts (sym i.1) i.0 z.1 in
      let end : same_formula (filled_formula ts m.form.rest) g.target ≡ true = subst (λ ts. same_formula (filled_formula ts m.form.rest) g.target ≡ true) c.2 i.2 in
      let w = staged s l.theorems Q n g.target m ts c.1 end a c.0 known.fitting there in
      let st = stages (steps_of m.form) ts a in
      let goals = ap (map (λ a. aimed a g)) w.asks ∙ asked-goals g ts w.extra ∙ ap (map (λ h. aimed (antecedent_at ts h) g)) (sym w.split) in
      let good : Good l (sequent g) (map sequent (asking g st)) (applied st p ∷ []) =
      record {
        turns = λ rest ps x. turn-apply s l.theorems Q n hs rest st a g.target p known.shows w.takes ps
            (subst (λ gs. AllProve s l.theorems Q gs ps) (sym (goals-are (asked st) rest ∙ ap (λ gs. gs ++ rest) (targets-are (asked st)))) x);
        fitting = subst (AllFitting s) (targets-are (asked st)) (all-fitting (asked st) w.fitting);
        few = subst (FewVars (n + 1)) (targets-are (asked st)) (few-are (asked st));
      } in
      let q : record { terms = ts; steps = steps_of m.form } ≡ f = cc in
      subst (Takes e a p) q (
        ap (λ x. and_then x (λ a. and_then (wanted (fewest a g.target) NoInstance) (rewriting.applied g))) is
            ∙ ap (λ x. and_then x (rewriting.applied g)) y.1
            ∙ ap (λ x. and_then x (λ ts. Ok (map (λ h. aimed (antecedent_at ts h) g) m.form.antecedents))) z.1
            ∙ ap Ok (sym goals),
        does.by-good l g ready (asking g st) (applied st p ∷ []) good,
      )

  -- what is asked for is known before it is made
  pub asks : (e : Expression) (a : Fm) (p : Pf) → given l g e ≡ Ok a → IsProved l g a p → (f : Fit) → fit a g.target ≡ Ok f → Asks f a
  asks e a p is known f made =
      let y = then-ok (wanted (fewest a g.target) NoInstance) fitted f made in
      let m = y.0 in
      let z = then-ok (fixed m.form.binders m.values) (λ ts. Ok (record { terms = ts; steps = steps_of m.form })) f y.2 in
      let k = finding g.target [] [] a m (wanted-ok (fewest a g.target) NoInstance m y.1) in
      let i = instance-is s n m.form.rest (length m.form.binders) g.target m.values fit-goal.1 k.values in
      let c = fixed-ok s.functions n m.form.binders m.values z.0 (sym i.1) i.0 z.1 in
      let q : record { terms = z.0; steps = steps_of m.form } ≡ f = cc in
      record {
        tight = fit-tight a g.target f made;
        asked = subst (λ (f : Fit). asked (stages f.steps f.terms a) ≡ antecedents f.steps [] f.terms a) q (asked-filled s.functions n (steps_of m.form) [] z.0 a tt c.0);
      }

  pub does-apply : (e : Expression) (a : Fm) (p : Pf) → given l g e ≡ Ok a → IsProved l g a p → (f : Fit) → fit a g.target ≡ Ok f → (r : Result Reduction ActFault) → Applies g f a p r → DoesWithin l g (Apply e) r
  does-apply e a p is known f made (Ok r) h = let w = applies e a p is known f made in done (Apply e) _ _ w.0 w.1 r h
  does-apply e a p is known f made (Err (Stop c)) h = let w = applies e a p is known f made in subst (λ w. StopsWithin w c) (sym w.0) h
  does-apply e a p is known f made (Err OutOfMemory) h = tt

  -- ---- `apply e at h`

  abbrev form : Fm → Stripped
  form a = unbound [] a

  pub found-fits : (x : Word) (f : Found) → hypothesis g x.text ≡ Some f → fits s n 0 f.hyp.formula ≡ true
  found-fits x f there = fit_at s n hs f.number f.hyp.formula fit-goal.0 (found-there g x.text f there)

  record Forward (f : Found) (a : Fm) (p : Pf) (ts : List Tm) : Type 0 where
    pub claim : Claim
    pub is : detached_at f a p ts ≡ Ok claim
    pub says : forward (form a) (form a).rest f.hyp.formula ≡ Ok claim.says
    pub good : Good l (sequent g) (map sequent (changed_to g f claim.says ∷ [])) (cut claim.says claim.by ∷ [])

  forwards-to : (x : Word) (f : Found) → hypothesis g x.text ≡ Some f → (a : Fm) (p : Pf) → IsProved l g a p → (ts : List Tm) → (rest : Fm) → (form a).rest ≡ rest → forward_terms (form a) rest f.hyp.formula ≡ Ok ts → Forward f a p ts
  forwards-to x f there a p known ts (imp u v) is e =
      let subject = f.hyp.formula in
      let holes = length (form a).binders in
      let y = then-ok (wanted (formula_instance u holes subject) NoInstance) (fixed (form a).binders) ts e in
      let fs = found-fits x f there in
      let i = instance-is s n u holes subject y.0 fs (wanted-ok (formula_instance u holes subject) NoInstance y.0 y.1) in
      let k = fixed-ok s.functions n (form a).binders y.0 ts (sym i.1) i.0 y.2 in
      let by = (taken_at ts a p).by in
      let tf = taken-filled l g ts a p k.0 k.1 ∙ ap (filled_formula ts) is ∙ filled-imp s.functions n ts u v in
      let proved : IsProved l g (imp (filled_formula ts u) (filled_formula ts v)) by = subst (λ c. IsProved l g c by) tf (taken-proved l g ts a p k.0 known) in
      let same : same_formula (filled_formula ts u) subject ≡ true = subst (λ ts. same_formula (filled_formula ts u) subject ≡ true) k.2 i.2 in
      let fv = (and_parts _ _ proved.fitting).1 in
      let d = impe subject by (hyp f.number) in
      record {
        claim = record { says = filled_formula ts v; by = d };
        is = ap (λ c. detached f c by) tf;
        says = ap (λ rest. forward (form a) rest subject) is ∙ ap (λ x. and_then x (λ vs. and_then (fixed (form a).binders vs) (λ ts. Ok (filled_formula ts v)))) y.1
            ∙ ap (λ x. and_then x (λ ts. Ok (filled_formula ts v))) y.2;
        good = changed l ok g fit-goal f (filled_formula ts v) (changed_to g f (filled_formula ts v) ∷ []) d refl fv
            (by_impe s l.theorems Q n hs subject (filled_formula ts v) by (hyp f.number) fs (proved.shows (imp subject (filled_formula ts v)) (and_from _ _ same (same_formula-refl (filled_formula ts v))))
            (from_gives s l.theorems Q n hs subject (hyp f.number) (by_hyp s l.theorems Q n hs f.number subject (found-there g x.text f there))));
      }
  forwards-to x f there a p known ts falsum is e = absurd (cc)
  forwards-to x f there a p known ts (eq u v) is e = absurd (cc)
  forwards-to x f there a p known ts (pred q us) is e = absurd (cc)
  forwards-to x f there a p known ts (and u v) is e = absurd (cc)
  forwards-to x f there a p known ts (or u v) is e = absurd (cc)
  forwards-to x f there a p known ts (all z u) is e = absurd (cc)
  forwards-to x f there a p known ts (ex z u) is e = absurd (cc)

  abbrev at-goals : Expression → Word → Tried (List Goal)
  at-goals e x = rewriting.apply_at l g e x

  forward-goals : (e : Expression) (x : Word) (f : Found) → hypothesis g x.text ≡ Some f → (a : Fm) → given l g e ≡ Ok a →
      new_goals l g (ApplyAt e x) ≡ and_then (forward (form a) (form a).rest f.hyp.formula) (λ b. Ok (changed_to g f b ∷ []))
  unfolding new_goals
  forward-goals e x f there a is =
      ap (λ o. and_then (wanted o (NoSuchName x.at)) (λ f. and_then (given l g e) (λ a. and_then (forward (unbound [] a) (unbound [] a).rest f.hyp.formula) (λ b. Ok (changed_to g f b ∷ []))))) there
      ∙ ap (λ y. and_then y (λ a. and_then (forward (unbound [] a) (unbound [] a).rest f.hyp.formula) (λ b. Ok (changed_to g f b ∷ [])))) is

  pub does-apply_at : (e : Expression) (x : Word) (f : Found) → hypothesis g x.text ≡ Some f → (a : Fm) (p : Pf) → given l g e ≡ Ok a → IsProved l g a p → (c : Claim) → forwarded f a p ≡ Ok c → (r : Reduction) →
      Has (changed_to g f c.says ∷ []) (cut c.says c.by ∷ []) r → DoesWithin l g (ApplyAt e x) (Ok r)
  does-apply_at e x f there a p is known c made r h =
      let y = then-ok (forward_terms (form a) (form a).rest f.hyp.formula) (detached_at f a p) c made in
      let w = forwards-to x f there a p known y.0 (form a).rest refl y.1 in
      let q : w.claim ≡ c = cc in
      done (ApplyAt e x) (changed_to g f c.says ∷ []) (cut c.says c.by ∷ [])
      (forward-goals e x f there a is ∙ ap (λ y. and_then y (λ b. Ok (changed_to g f b ∷ []))) w.says ∙ ap (λ (c : Claim). Ok (changed_to g f c.says ∷ [])) q)
      (does.by-good l g ready (changed_to g f c.says ∷ []) (cut c.says c.by ∷ []) (subst (λ (c : Claim). Good l (sequent g) (map sequent (changed_to g f c.says ∷ [])) (cut c.says c.by ∷ [])) q w.good)) r h

  pub large-forward : (e : Expression) (x : Word) (f : Found) → hypothesis g x.text ≡ Some f → (a : Fm) → given l g e ≡ Ok a → (lim first : rust.Cause) → IsLarge (forward (form a) (form a).rest f.hyp.formula) lim →
      IsFirst (first_over (goal_measures (aimed falsum (changed_to g f falsum)))) lim first → DoesWithin l g (ApplyAt e x) (Err (Stop first))
  large-forward e x f there a is lim first large at-first = go (forward (form a) (form a).rest f.hyp.formula) refl large
    where
      go : (t : Tried Fm) → forward (form a) (form a).rest f.hyp.formula ≡ t → IsLarge t lim → DoesWithin l g (ApplyAt e x) (Err (Stop first))
      go (Ok b) q large = subst (λ w. StopsWithin w first) (sym (forward-goals e x f there a is ∙ ap (λ y. and_then y (λ b. Ok (changed_to g f b ∷ []))) q)) (limit-hypothesis g f b lim first large at-first)
      go (Err d) q large = absurd large

  forward-err : (st : Stripped) (rest subject : Fm) (c : Cause) → forward_terms st rest subject ≡ Err c → forward st rest subject ≡ Err c
  forward-err st (imp u v) subject c e =
      then-err (wanted (formula_instance u (length st.binders) subject) NoInstance) (fixed st.binders) (λ vs. and_then (fixed st.binders vs) (λ ts. Ok (filled_formula ts v))) c
      (λ vs q. ap (λ x. and_then x (λ ts. Ok (filled_formula ts v))) q) e
  forward-err st falsum subject c e = let w : WrongShape ≡ c = cc in ap Err w
  forward-err st (eq u v) subject c e = let w : WrongShape ≡ c = cc in ap Err w
  forward-err st (pred q us) subject c e = let w : WrongShape ≡ c = cc in ap Err w
  forward-err st (and u v) subject c e = let w : WrongShape ≡ c = cc in ap Err w
  forward-err st (or u v) subject c e = let w : WrongShape ≡ c = cc in ap Err w
  forward-err st (all z u) subject c e = let w : WrongShape ≡ c = cc in ap Err w
  forward-err st (ex z u) subject c e = let w : WrongShape ≡ c = cc in ap Err w

  -- nothing is forwarded
  pub stopped-forward : (e : Expression) (x : Word) (f : Found) → hypothesis g x.text ≡ Some f → (a : Fm) (p : Pf) → given l g e ≡ Ok a → IsProved l g a p → (c : Cause) → forwarded f a p ≡ Err c → new_goals l g (ApplyAt e x) ≡ Err c
  stopped-forward e x f there a p is known c made = forward-goals e x f there a is ∙ ap (λ y. and_then y (λ b. Ok (changed_to g f b ∷ []))) (go (forward_terms (form a) (form a).rest f.hyp.formula) refl made)
    where
      go : (t : Tried (List Tm)) → forward_terms (form a) (form a).rest f.hyp.formula ≡ t → and_then t (detached_at f a p) ≡ Err c → forward (form a) (form a).rest f.hyp.formula ≡ Err c
      go (Ok ts) e q = let w = forwards-to x f there a p known ts (form a).rest refl e in absurd (ok-err w.claim c (sym w.is ∙ q))
      go (Err d) e q = let w : d ≡ c = cc in forward-err (form a) (form a).rest f.hyp.formula c (e ∙ ap Err w)

  -- ---- `rw [r]`, `rw [r] at h`

  -- the sides of the equation with its holes filled
  equated-filled : (back : Bool) (ts : List Tm) (c : Fm) (by : Pf) (z : Sides) → sides back c ≡ Ok z → equated back (filled_formula ts c) by ≡ Ok (record { old = filled ts z.old; new = filled ts z.new; by = by })
  equated-filled true ts (eq x y) by z e =
      let q : record { old = y; new = x } ≡ z = cc in
      ap (λ c. equated true c by) (filled-eq s.functions n ts x y) ∙ ap (λ (z : Sides). Ok (record { old = filled ts z.old; new = filled ts z.new; by = by })) q
  equated-filled false ts (eq x y) by z e =
      let q : record { old = x; new = y } ≡ z = cc in
      ap (λ c. equated false c by) (filled-eq s.functions n ts x y) ∙ ap (λ (z : Sides). Ok (record { old = filled ts z.old; new = filled ts z.new; by = by })) q
  equated-filled back ts falsum by z e = absurd (cc)
  equated-filled back ts (pred q us) by z e = absurd (cc)
  equated-filled back ts (and u v) by z e = absurd (cc)
  equated-filled back ts (or u v) by z e = absurd (cc)
  equated-filled back ts (imp u v) by z e = absurd (cc)
  equated-filled back ts (all x u) by z e = absurd (cc)
  equated-filled back ts (ex x u) by z e = absurd (cc)

  -- what is known of the two sides
  record Equal (back : Bool) (q : Equation) : Type 0 where
    pub fits_old : fits_term s.functions n 0 q.old ≡ true
    pub fits_new : fits_term s.functions n 0 q.new ≡ true
    pub old_new : Proves s l.theorems Q n hs (eq q.old q.new) (old_is_new back q)
    pub new_old : Proves s l.theorems Q n hs (eq q.new q.old) (new_is_old back q)

  equal : (back : Bool) (c : Fm) (by : Pf) (q : Equation) → equated back c by ≡ Ok q → IsProved l g c by → Equal back q
  equal true (eq x y) by q e known =
      let w : record { old = y; new = x; by = by } ≡ q = cc in
      let f = and_parts _ _ known.fitting in
      let p = from_gives s l.theorems Q n hs (eq x y) by known.shows in
      subst (Equal true) w (record { fits_old = f.1; fits_new = f.0; old_new = from_gives s l.theorems Q n hs (eq y x) _ (by_flipped s l.theorems Q n hs x y by f.0 f.1 p); new_old = p })
  equal false (eq x y) by q e known =
      let w : record { old = x; new = y; by = by } ≡ q = cc in
      let f = and_parts _ _ known.fitting in
      let p = from_gives s l.theorems Q n hs (eq x y) by known.shows in
      subst (Equal false) w (record { fits_old = f.0; fits_new = f.1; old_new = p; new_old = from_gives s l.theorems Q n hs (eq y x) _ (by_flipped s l.theorems Q n hs x y by f.0 f.1 p) })
  equal back falsum by q e known = absurd (cc)
  equal back (pred p us) by q e known = absurd (cc)
  equal back (and u v) by q e known = absurd (cc)
  equal back (or u v) by q e known = absurd (cc)
  equal back (imp u v) by q e known = absurd (cc)
  equal back (all x u) by q e known = absurd (cc)
  equal back (ex x u) by q e known = absurd (cc)

  record Rewrites (back : Bool) (a : Fm) (p : Pf) (subject : Fm) (ts : List Tm) : Type 0 where
    pub equation : Equation
    pub is : equated_at back a p ts ≡ Ok equation
    pub says : rewritten_by back (form a) subject ≡ Ok (rewritten_in subject equation)
    pub equal : Equal back equation

  rewrites : (back : Bool) (a : Fm) (p : Pf) → IsProved l g a p → (subject : Fm) → fits s n 0 subject ≡ true → (ts : List Tm) → rule_terms back (form a) subject ≡ Ok ts → Rewrites back a p subject ts
  rewrites back a p known subject fs ts e =
      let st = form a in
      let x = then-ok (sides back st.rest) (λ z. and_then (no_binder z) (instance_terms st subject)) ts e in
      let y = then-ok (no_binder x.0) (instance_terms st subject) ts x.2 in
      let z = y.0 in
      let v = then-ok (wanted (first_instance z.old (length st.binders) subject) NoInstance) (fixed st.binders) ts y.2 in
      let q = no-binder x.0 z y.1 in
      let i = first-fixes s n z.old (length st.binders) subject v.0 fs (wanted-ok (first_instance z.old (length st.binders) subject) NoInstance v.0 v.1) in
      let k = fixed-ok s.functions n st.binders v.0 ts (sym i.1) i.0 v.2 in
      let by = (taken_at ts a p).by in
      let tf = taken-filled l g ts a p k.0 k.1 in
      let sd : sides back st.rest ≡ Ok z = x.1 ∙ ap Ok q in
      let eqn : Equation = record { old = filled ts z.old; new = filled ts z.new; by = by } in
      let filled-is = equated-filled back ts st.rest by z sd in
      record {
        equation = eqn;
        is = ap (λ c. equated back c by) tf ∙ filled-is;
        says = ap (λ y. and_then y (λ z. and_then (no_binder z) (exchanged st subject))) x.1
            ∙ ap (λ y. and_then y (exchanged st subject)) y.1
            ∙ ap (λ y. and_then y (λ vs. and_then (fixed st.binders vs) (λ ts. Ok (replaced_formula (filled ts z.old) (filled ts z.new) subject)))) v.1
            ∙ ap (λ y. and_then y (λ ts. Ok (replaced_formula (filled ts z.old) (filled ts z.new) subject))) v.2;
        equal = equal back (filled_formula ts st.rest) by eqn filled-is (subst (λ c. IsProved l g c by) tf (taken-proved l g ts a p k.0 known));
      }

  rewritten-err : (back : Bool) (a subject : Fm) (c : Cause) → rule_terms back (form a) subject ≡ Err c → rewritten_by back (form a) subject ≡ Err c
  rewritten-err back a subject c e =
      let st = form a in
      then-err (sides back st.rest) (λ z. and_then (no_binder z) (instance_terms st subject)) (λ z. and_then (no_binder z) (exchanged st subject)) c
      (λ z q. then-err (no_binder z) (instance_terms st subject) (exchanged st subject) c
      (λ z q. then-err (wanted (first_instance z.old (length st.binders) subject) NoInstance) (fixed st.binders) (λ vs. and_then (fixed st.binders vs) (λ ts. Ok (replaced_formula (filled ts z.old) (filled ts z.new) subject))) c
      (λ vs q. ap (λ x. and_then x (λ ts. Ok (replaced_formula (filled ts z.old) (filled ts z.new) subject))) q) q) q) e

  -- the equation, or why there is none
  equation-ok : (back : Bool) (a : Fm) (p : Pf) → IsProved l g a p → (subject : Fm) → fits s n 0 subject ≡ true → (q : Equation) → equation back a p subject ≡ Ok q →
      (rewritten_by back (form a) subject ≡ Ok (rewritten_in subject q)) × Equal back q
  equation-ok back a p known subject fs q e =
      let y = then-ok (rule_terms back (form a) subject) (equated_at back a p) q e in
      let w = rewrites back a p known subject fs y.0 y.1 in
      let r : w.equation ≡ q = cc in
      (w.says ∙ ap (λ (q : Equation). Ok (rewritten_in subject q)) r, subst (Equal back) r w.equal)

  equation-err : (back : Bool) (a : Fm) (p : Pf) → IsProved l g a p → (subject : Fm) → fits s n 0 subject ≡ true → (c : Cause) → equation back a p subject ≡ Err c → rewritten_by back (form a) subject ≡ Err c
  equation-err back a p known subject fs c e = go (rule_terms back (form a) subject) refl e
    where
      go : (t : Tried (List Tm)) → rule_terms back (form a) subject ≡ t → and_then t (equated_at back a p) ≡ Err c → rewritten_by back (form a) subject ≡ Err c
      go (Ok ts) is q = let w = rewrites back a p known subject fs ts is in absurd (ok-err w.equation c (sym w.is ∙ q))
      go (Err d) is q = let w : d ≡ c = cc in rewritten-err back a subject c (is ∙ ap Err w)

  -- the target
  rewrite-goals : (r : Rule) (a : Fm) → given l g r.expr ≡ Ok a → new_goals l g (Rewrite r) ≡ and_then (rewritten_by r.back (form a) g.target) (λ a. Ok (aimed a g ∷ []))
  unfolding new_goals
  rewrite-goals r a is = ap (λ y. and_then (and_then y (λ a. rewritten_by r.back (unbound [] a) g.target)) (λ a. Ok (aimed a g ∷ []))) is

  good-rewrite : (back : Bool) (q : Equation) → Equal back q → Good l (sequent g) (map sequent (aimed (rewritten_in g.target q) g ∷ [])) (rewriting_frames back g.target q)
  good-rewrite back q k =
      let c = g.target in
      let b = abstracted_formula q.old 0 c in
      let f = frames.rewrite b q.new q.old (new_is_old back q) in
      one_goal l ok g fit-goal (aimed (rewritten_in c q) g) (aimed (rewritten_in c q) g ∷ []) (f ∷ []) (at n hs (rewritten_in c q)) (omega arith) refl refl
      (λ rest. subst (λ d. Turns s l.theorems Q (f ∷ []) (sequent g ∷ rest) (at n hs d ∷ rest)) (put_back_formula s n q.old q.new c fit-goal.1)
      (turn-rewrite s l.theorems Q n hs rest b q.new q.old (new_is_old back q) c (fits-abstracted s n q.old c 0 fit-goal.1) k.fits_new k.fits_old k.new_old
      (put_back_formula s n q.old q.old c fit-goal.1 ∙ unchanged_formula q.old c)))
      (fit-goal.0, fits-replaced s n q.old q.new c k.fits_new fit-goal.1)

  -- the formula that is made is small
  pub small-rewrite : (back : Bool) (a : Fm) (p : Pf) → IsProved l g a p → (subject : Fm) → fits s n 0 subject ≡ true → (q : Equation) → equation back a p subject ≡ Ok q → IsSmall (rewritten_by back (form a) subject) → nodes_of (rewritten_in subject q) ≤ 4096
  small-rewrite back a p known subject fs q e small = subst IsSmall (equation-ok back a p known subject fs q e).0 small

  pub does-rewrite : (r : Rule) (a : Fm) (p : Pf) → given l g r.expr ≡ Ok a → IsProved l g a p → (q : Equation) → equation r.back a p g.target ≡ Ok q → (made : Reduction) →
      Has (aimed (rewritten_in g.target q) g ∷ []) (rewriting_frames r.back g.target q) made → DoesWithin l g (Rewrite r) (Ok made)
  does-rewrite r a p is known q e made m =
      let w = equation-ok r.back a p known g.target fit-goal.1 q e in
      let new = aimed (rewritten_in g.target q) g ∷ [] in
      done (Rewrite r) new (rewriting_frames r.back g.target q) (rewrite-goals r a is ∙ ap (λ y. and_then y (λ a. Ok (aimed a g ∷ []))) w.0)
      (does.by-good l g ready new (rewriting_frames r.back g.target q) (good-rewrite r.back q w.1)) made m

  pub large-rewrite : (r : Rule) (a : Fm) → given l g r.expr ≡ Ok a → (lim first : rust.Cause) → IsLarge (rewritten_by r.back (form a) g.target) lim → IsFirst (first_over (goal_measures (aimed falsum g))) lim first → DoesWithin l g (Rewrite r) (Err (Stop first))
  large-rewrite r a is lim first large at-first = go (rewritten_by r.back (form a) g.target) refl large
    where
      go : (t : Tried Fm) → rewritten_by r.back (form a) g.target ≡ t → IsLarge t lim → DoesWithin l g (Rewrite r) (Err (Stop first))
      go (Ok b) q large = subst (λ w. StopsWithin w first) (sym (rewrite-goals r a is ∙ ap (λ y. and_then y (λ a. Ok (aimed a g ∷ []))) q)) (limit-target g b lim first large at-first)
      go (Err d) q large = absurd large

  pub stopped-rewrite : (r : Rule) (a : Fm) (p : Pf) → given l g r.expr ≡ Ok a → IsProved l g a p → (c : Cause) → equation r.back a p g.target ≡ Err c → new_goals l g (Rewrite r) ≡ Err c
  stopped-rewrite r a p is known c e = rewrite-goals r a is ∙ ap (λ y. and_then y (λ a. Ok (aimed a g ∷ []))) (equation-err r.back a p known g.target fit-goal.1 c e)

  -- a hypothesis
  rewrite_at-goals : (r : Rule) (x : Word) (f : Found) → hypothesis g x.text ≡ Some f → (a : Fm) → given l g r.expr ≡ Ok a →
      new_goals l g (RewriteAt r x) ≡ and_then (rewritten_by r.back (form a) f.hyp.formula) (λ a. Ok (changed_to g f a ∷ []))
  unfolding new_goals
  rewrite_at-goals r x f there a is =
      ap (λ o. and_then (wanted o (NoSuchName x.at)) (λ f. and_then (rewritten l g r f.hyp.formula) (λ a. Ok (changed_to g f a ∷ [])))) there
      ∙ ap (λ y. and_then (and_then y (λ a. rewritten_by r.back (unbound [] a) f.hyp.formula)) (λ a. Ok (changed_to g f a ∷ []))) is

  good-rewrite_at : (x : Word) (f : Found) → hypothesis g x.text ≡ Some f → (back : Bool) (q : Equation) → Equal back q →
      Good l (sequent g) (map sequent (changed_to g f (rewritten_in f.hyp.formula q) ∷ [])) (cutting (reworded back f q))
  good-rewrite_at x f there back q k =
      let a = f.hyp.formula in
      let fa = found-fits x f there in
      let b = abstracted_formula q.old 0 a in
      let fb = fits-abstracted s n q.old a 0 fa in
      let here : opened_formula q.old b ≡ a = put_back_formula s n q.old q.old a fa ∙ unchanged_formula q.old a in
      let p : Proves s l.theorems Q n hs (opened_formula q.old b) (hyp f.number) =
      subst (λ a. Proves s l.theorems Q n hs a (hyp f.number)) (sym here) (from_gives s l.theorems Q n hs a (hyp f.number) (by_hyp s l.theorems Q n hs f.number a (found-there g x.text f there))) in
      let d = repl b q.old q.new (old_is_new back q) (hyp f.number) in
      let made : Proves s l.theorems Q n hs (rewritten_in a q) d =
      subst (λ a. Proves s l.theorems Q n hs a d) (put_back_formula s n q.old q.new a fa)
      (from_gives s l.theorems Q n hs (opened_formula q.new b) d (by_repl s l.theorems Q n hs b q.old q.new (old_is_new back q) (hyp f.number) fb k.fits_old k.fits_new k.old_new p)) in
      changed l ok g fit-goal f (rewritten_in a q) (changed_to g f (rewritten_in a q) ∷ []) d refl (fits-replaced s n q.old q.new a k.fits_new fa) made

  pub does-rewrite_at : (r : Rule) (x : Word) (f : Found) → hypothesis g x.text ≡ Some f → (a : Fm) (p : Pf) → given l g r.expr ≡ Ok a → IsProved l g a p → (q : Equation) → equation r.back a p f.hyp.formula ≡ Ok q →
      (made : Reduction) → Has (changed_to g f (rewritten_in f.hyp.formula q) ∷ []) (cutting (reworded r.back f q)) made → DoesWithin l g (RewriteAt r x) (Ok made)
  does-rewrite_at r x f there a p is known q e made m =
      let w = equation-ok r.back a p known f.hyp.formula (found-fits x f there) q e in
      let new = changed_to g f (rewritten_in f.hyp.formula q) ∷ [] in
      done (RewriteAt r x) new (cutting (reworded r.back f q)) (rewrite_at-goals r x f there a is ∙ ap (λ y. and_then y (λ a. Ok (changed_to g f a ∷ []))) w.0)
      (does.by-good l g ready new (cutting (reworded r.back f q)) (good-rewrite_at x f there r.back q w.1)) made m

  pub large-rewrite_at : (r : Rule) (x : Word) (f : Found) → hypothesis g x.text ≡ Some f → (a : Fm) → given l g r.expr ≡ Ok a → (lim first : rust.Cause) → IsLarge (rewritten_by r.back (form a) f.hyp.formula) lim →
      IsFirst (first_over (goal_measures (aimed falsum (changed_to g f falsum)))) lim first → DoesWithin l g (RewriteAt r x) (Err (Stop first))
  large-rewrite_at r x f there a is lim first large at-first = go (rewritten_by r.back (form a) f.hyp.formula) refl large
    where
      go : (t : Tried Fm) → rewritten_by r.back (form a) f.hyp.formula ≡ t → IsLarge t lim → DoesWithin l g (RewriteAt r x) (Err (Stop first))
      go (Ok b) q large = subst (λ w. StopsWithin w first) (sym (rewrite_at-goals r x f there a is ∙ ap (λ y. and_then y (λ a. Ok (changed_to g f a ∷ []))) q)) (limit-hypothesis g f b lim first large at-first)
      go (Err d) q large = absurd large

  pub stopped-rewrite_at : (r : Rule) (x : Word) (f : Found) → hypothesis g x.text ≡ Some f → (a : Fm) (p : Pf) → given l g r.expr ≡ Ok a → IsProved l g a p → (c : Cause) → equation r.back a p f.hyp.formula ≡ Err c → new_goals l g (RewriteAt r x) ≡ Err c
  stopped-rewrite_at r x f there a p is known c e =
      rewrite_at-goals r x f there a is ∙ ap (λ y. and_then y (λ a. Ok (changed_to g f a ∷ []))) (equation-err r.back a p known f.hyp.formula (found-fits x f there) c e)

-- ---- sizes

-- the formula that comes of the terms
pub rewritten-is : (back : Bool) (st : Stripped) (subject : Fm) (ts : List Tm) → rule_terms back st subject ≡ Ok ts → (z : Sides) × (sides back st.rest ≡ Ok z) × (rewritten_by back st subject ≡ Ok (exchanged_at ts subject z))
rewritten-is back st subject ts e =
    let x = then-ok (sides back st.rest) (λ z. and_then (no_binder z) (instance_terms st subject)) ts e in
    let y = then-ok (no_binder x.0) (instance_terms st subject) ts x.2 in
    let z = y.0 in
    let v = then-ok (wanted (first_instance z.old (length st.binders) subject) NoInstance) (fixed st.binders) ts y.2 in
    let q = no-binder x.0 z y.1 in (
      z,
      x.1 ∙ ap Ok q,
      ap (λ y. and_then y (λ z. and_then (no_binder z) (exchanged st subject))) x.1
          ∙ ap (λ y. and_then y (exchanged st subject)) y.1
          ∙ ap (λ y. and_then y (λ vs. and_then (fixed st.binders vs) (λ ts. Ok (replaced_formula (filled ts z.old) (filled ts z.new) subject)))) v.1
          ∙ ap (λ y. and_then y (λ ts. Ok (replaced_formula (filled ts z.old) (filled ts z.new) subject))) v.2,
    )

pub large-rule : (back : Bool) (st : Stripped) (subject : Fm) (ts : List Tm) → rule_terms back st subject ≡ Ok ts → (o : Option rust.Cause) (lim : rust.Cause) → o ≡ Some lim →
    ((z : Sides) → sides back st.rest ≡ Ok z → Tells (large_nodes (exchanged_at ts subject z)) o) → IsLarge (rewritten_by back st subject) lim
large-rule back st subject ts e o lim is t = let w = rewritten-is back st subject ts e in subst (λ t. IsLarge t lim) (sym w.2) (count-large (exchanged_at ts subject w.0) o lim is (t w.0 w.1))

pub small-rule : (back : Bool) (st : Stripped) (subject : Fm) (ts : List Tm) → rule_terms back st subject ≡ Ok ts → (o : Option rust.Cause) → o ≡ None →
    ((z : Sides) → sides back st.rest ≡ Ok z → Tells (large_nodes (exchanged_at ts subject z)) o) → IsSmall (rewritten_by back st subject)
small-rule back st subject ts e o is t = let w = rewritten-is back st subject ts e in subst IsSmall (sym w.2) (count-small (exchanged_at ts subject w.0) o is (t w.0 w.1))

forward-is : (st : Stripped) (rest subject : Fm) (ts : List Tm) → forward_terms st rest subject ≡ Ok ts → (u : Fm) × (v : Fm) × (rest ≡ imp u v) × (forward st rest subject ≡ Ok (filled_formula ts v))
forward-is st (imp u v) subject ts e =
    let y = then-ok (wanted (formula_instance u (length st.binders) subject) NoInstance) (fixed st.binders) ts e in
    (u, v, refl, ap (λ x. and_then x (λ vs. and_then (fixed st.binders vs) (λ ts. Ok (filled_formula ts v)))) y.1 ∙ ap (λ x. and_then x (λ ts. Ok (filled_formula ts v))) y.2)
forward-is st falsum subject ts e = absurd (cc)
forward-is st (eq t u) subject ts e = absurd (cc)
forward-is st (pred p us) subject ts e = absurd (cc)
forward-is st (and u v) subject ts e = absurd (cc)
forward-is st (or u v) subject ts e = absurd (cc)
forward-is st (all x u) subject ts e = absurd (cc)
forward-is st (ex x u) subject ts e = absurd (cc)

pub large-right : (st : Stripped) (subject : Fm) (ts : List Tm) → forward_terms st st.rest subject ≡ Ok ts → (o : Option rust.Cause) (lim : rust.Cause) → o ≡ Some lim →
    ((u v : Fm) → st.rest ≡ imp u v → Tells (first_over (formula_measures (filled_formula ts v))) o) → IsLarge (forward st st.rest subject) lim
large-right st subject ts e o lim is t =
    let w = forward-is st st.rest subject ts e in
    subst (λ t. IsLarge t lim) (sym w.3) (ap (option_map cause_of) (sym is) ∙ t w.0 w.1 w.2)

pub small-right : (st : Stripped) (subject : Fm) (ts : List Tm) → forward_terms st st.rest subject ≡ Ok ts → (o : Option rust.Cause) → o ≡ None →
    ((u v : Fm) → st.rest ≡ imp u v → Tells (first_over (formula_measures (filled_formula ts v))) o) → IsSmall (forward st st.rest subject)
small-right st subject ts e o is t =
    let w = forward-is st st.rest subject ts e in
    subst IsSmall (sym w.3) (limit-small (filled_formula ts w.1) o is (t w.0 w.1 w.2))

-- ---- what is proved at the terms

pub forwards : (f : Found) (a : Fm) (p : Pf) (ts : List Tm) (taken c : Claim) → forward_terms (unbound [] a) (unbound [] a).rest f.hyp.formula ≡ Ok ts → taken ≡ taken_at ts a p → detached f taken.says taken.by ≡ Ok c → forwarded f a p ≡ Ok c
forwards f a p ts taken c e is d = ap (λ y. and_then y (detached_at f a p)) e ∙ ap (λ (c : Claim). detached f c.says c.by) (sym is) ∙ d

pub equates : (back : Bool) (a : Fm) (p : Pf) (subject : Fm) (ts : List Tm) (taken : Claim) (t : Tried Equation) → rule_terms back (unbound [] a) subject ≡ Ok ts → taken ≡ taken_at ts a p → equated back taken.says taken.by ≡ t → equation back a p subject ≡ t
equates back a p subject ts taken t e is d = ap (λ y. and_then y (equated_at back a p)) e ∙ ap (λ (c : Claim). equated back c.says c.by) (sym is) ∙ d

-- ---- stops

-- nothing is given, nothing fits
pub ungiven-apply : (l : Lookup) (g : Goal) (e : Expression) (c : Cause) → given l g e ≡ Err c → new_goals l g (Apply e) ≡ Err c
unfolding new_goals
ungiven-apply l g e c is = ap (λ y. and_then y (λ a. and_then (wanted (fewest a g.target) NoInstance) (rewriting.applied g))) is

pub stopped-apply : (l : Lookup) (g : Goal) (e : Expression) (a : Fm) → given l g e ≡ Ok a → (c : Cause) → fit a g.target ≡ Err c → new_goals l g (Apply e) ≡ Err c
unfolding new_goals
stopped-apply l g e a is c made =
    ap (λ y. and_then y (λ a. and_then (wanted (fewest a g.target) NoInstance) (rewriting.applied g))) is
    ∙ then-err (wanted (fewest a g.target) NoInstance) fitted (rewriting.applied g) c
    (λ m q. then-err (fixed m.form.binders m.values) (λ ts. Ok (record { terms = ts; steps = steps_of m.form })) (λ ts. Ok (map (λ h. aimed (antecedent_at ts h) g) m.form.antecedents)) c
    (λ ts q. absurd (ok-err (record { terms = ts; steps = steps_of m.form }) c q)) q) made

-- there is no hypothesis of the name
pub unnamed-apply_at : (l : Lookup) (g : Goal) (e : Expression) (x : Word) → hypothesis g x.text ≡ None → new_goals l g (ApplyAt e x) ≡ Err (NoSuchName x.at)
unfolding new_goals
unnamed-apply_at l g e x none =
    ap (λ o. and_then (wanted o (NoSuchName x.at)) (λ f. and_then (given l g e) (λ a. and_then (forward (unbound [] a) (unbound [] a).rest f.hyp.formula) (λ b. Ok (changed_to g f b ∷ []))))) none

pub ungiven-apply_at : (l : Lookup) (g : Goal) (e : Expression) (x : Word) (f : Found) → hypothesis g x.text ≡ Some f → (c : Cause) → given l g e ≡ Err c → new_goals l g (ApplyAt e x) ≡ Err c
unfolding new_goals
ungiven-apply_at l g e x f there c is =
    ap (λ o. and_then (wanted o (NoSuchName x.at)) (λ f. and_then (given l g e) (λ a. and_then (forward (unbound [] a) (unbound [] a).rest f.hyp.formula) (λ b. Ok (changed_to g f b ∷ []))))) there
    ∙ ap (λ y. and_then y (λ a. and_then (forward (unbound [] a) (unbound [] a).rest f.hyp.formula) (λ b. Ok (changed_to g f b ∷ [])))) is

pub ungiven-rewrite : (l : Lookup) (g : Goal) (r : Rule) (c : Cause) → given l g r.expr ≡ Err c → new_goals l g (Rewrite r) ≡ Err c
unfolding new_goals
ungiven-rewrite l g r c is = ap (λ y. and_then (and_then y (λ a. rewritten_by r.back (unbound [] a) g.target)) (λ a. Ok (aimed a g ∷ []))) is

pub unnamed-rewrite_at : (l : Lookup) (g : Goal) (r : Rule) (x : Word) → hypothesis g x.text ≡ None → new_goals l g (RewriteAt r x) ≡ Err (NoSuchName x.at)
unfolding new_goals
unnamed-rewrite_at l g r x none = ap (λ o. and_then (wanted o (NoSuchName x.at)) (λ f. and_then (rewritten l g r f.hyp.formula) (λ a. Ok (changed_to g f a ∷ [])))) none

pub ungiven-rewrite_at : (l : Lookup) (g : Goal) (r : Rule) (x : Word) (f : Found) → hypothesis g x.text ≡ Some f → (c : Cause) → given l g r.expr ≡ Err c → new_goals l g (RewriteAt r x) ≡ Err c
unfolding new_goals
ungiven-rewrite_at l g r x f there c is =
    ap (λ o. and_then (wanted o (NoSuchName x.at)) (λ f. and_then (rewritten l g r f.hyp.formula) (λ a. Ok (changed_to g f a ∷ [])))) there
    ∙ ap (λ y. and_then (and_then y (λ a. rewritten_by r.back (unbound [] a) f.hyp.formula)) (λ a. Ok (changed_to g f a ∷ []))) is

-- a refusal, by its form
pub forms-large : {X Y : Type 0} (view : X → Y) (want : Tried Y) (made : Tried Fm) (x : Refusal) (c : rust.Cause) → x ≡ Large c → Forms view want made (Err x) → IsLarge made c
forms-large view want made x c e f = subst (λ x. Forms view want made (Err x)) e f

pub forms-fault : {X Y : Type 0} (view : X → Y) (want : Tried Y) (made : Tried Fm) (x : Refusal) (e : ActFault) → x ≡ Fault e → Forms view want made (Err x) → Yields view want (Err e)
forms-fault view want made x e is f = go e (subst (λ x. Forms view want made (Err x)) is f)
  where
    go : (e : ActFault) → Forms view want made (Err (Fault e)) → Yields view want (Err e)
    go (Stop c) f = f
    go OutOfMemory f = f

-- what is handed on
pub stops-within : (l : Lookup) (g : Goal) (act : Act) (c : rust.Cause) → new_goals l g act ≡ Err (cause_of c) → DoesWithin l g act (Err (Stop c))
stops-within l g act c is = subst (λ w. StopsWithin w c) (sym is) refl
