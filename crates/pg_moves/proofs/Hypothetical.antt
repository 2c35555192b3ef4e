-- The acts on hypotheses: proofs of the new goals make one of the old goal, and the new goals fit.
use Rattle.std.proofs.Common.{◌≡◌, ℕ, ◌+◌, List, [], ◌∷◌, ◌++◌, length, map, true, Option, Some, None, refl, arith, ap, sym, ◌∙◌, subst}
use Rattle.std.specs.Prelude.{Ok, Err, if◌then◌else◌, slice_get, option_map, option_and_then}
use Rattle.std.proofs.lemmas.Bool.{and_parts, and_from}
use Rattle.pg_base.specs.Tokens.{Word}
use Rattle.pg_logic.specs.Tree.{Tm, Fm, falsum, eq, imp, same_formula}
use Rattle.pg_logic.specs.Signature.{Signature, fits}
use Rattle.pg_logic.specs.Declarations.{Name, signature_of}
use Rattle.pg_logic.specs.Kernel.{Pf, hyp, lem, impe, impi}
use Rattle.pg_script.specs.Data.{Part, Expression}
use Rattle.pg_moves.specs.Goals.{Goal, Hyp, live_names, hypothesis_named, aimed, with_hyp, without_hyp}
use Rattle.pg_moves.specs.Causes.{WrongArgument, NotSame, NoSuchName, and_then}
use Rattle.pg_moves.specs.Lookup.{Lookup, given_name, IsAvailable}
use Rattle.pg_moves.specs.Expressions.{gives, read_formula, begins}
use Rattle.pg_moves.specs.Closing.{given, formula_there}
use Rattle.pg_moves.specs.Assuming.{Found, hyp_at, hypothesis, hypothesis_there, changed_to, swapped, symmetric, symmetric_at, asserted, said_or_given, had, by_cases_of, reverted_hyp}
use Rattle.pg_moves.specs.Proofs.{Sequent, Proves, hyp_formula, sequent}
use Rattle.pg_moves.proofs.ByRecursion.{Fits}
use Rattle.pg_moves.specs.Framing.{symm_frames, swapped_proof}
use Rattle.pg_moves.specs.Frames.{Frame, cut, change, split, lemma, give, flipped, Turns}
use Rattle.pg_moves.proofs.Rules.{gives as from_gives, by_hyp, by_impi, by_impe, at_end, at_more}
use Rattle.pg_moves.proofs.Turning.{at, turn-cut, turn-lemma, turn-give}
use Rattle.pg_moves.proofs.Moved.{by_flipped, turn-symm}
use Rattle.pg_moves.proofs.More.{turn-symm_not, turn-by_cases}
use Rattle.pg_moves.proofs.Sequents.{then-ok, wanted-ok, if-ok, and_hyp, sequent-with_hyp, sequent-without_hyp, hyp-formula}
use Rattle.pg_moves.proofs.Given.{Sound, given-has, fit_at}
use Rattle.pg_moves.proofs.Good.{Good, Works, tried-ok, fit_push, one_goal, two_goals}

-- a live hypothesis stands where its number says
found-at : (g : Goal) (i : ℕ) (o : Option Hyp) (f : Found) → slice_get g.hyps i ≡ o → option_map (λ (x : Hyp). record { number = i; hyp = x }) o ≡ Some f → slice_get (map hyp_formula g.hyps) f.number ≡ Some f.hyp.formula
found-at g i None f is e = absurd (cc)
found-at g i (Some x) f is e =
    let q : record { number = i; hyp = x } ≡ f = cc in
    subst (λ (f : Found). slice_get (map hyp_formula g.hyps) f.number ≡ Some f.hyp.formula) q (hyp-formula i g.hyps x is)

pub found-there : (g : Goal) (x : Name) (f : Found) → hypothesis g x ≡ Some f → slice_get (map hyp_formula g.hyps) f.number ≡ Some f.hyp.formula
found-there g x f e = go (hypothesis_named g x) e
  where
    go : (o : Option ℕ) → option_and_then (hyp_at g) o ≡ Some f → slice_get (map hyp_formula g.hyps) f.number ≡ Some f.hyp.formula
    go None e = absurd (cc)
    go (Some i) e = found-at g i (slice_get g.hyps i) f refl e

-- what is to be proved where hypothesis f now says a
pub sequent-changed : (g : Goal) (f : Found) (a : Fm) → and_hyp a (sequent g) ≡ sequent (changed_to g f a)
sequent-changed g f a = sym (sequent-with_hyp f.hyp.name a (without_hyp f.number g) ∙ ap (and_hyp a) (sequent-without_hyp f.number g))

-- the formula fits, and the kernel accepts the proof of it
pub record Shown (l : Lookup) (g : Goal) (a : Fm) : Type 0 where
  pub fitting : fits (signature_of l.declared) (length g.vars) 0 a ≡ true
  pub proof : Pf
  pub proves : Proves (signature_of l.declared) l.theorems (IsAvailable l) (length g.vars) (map hyp_formula g.hyps) a proof

module _ (l : Lookup) (ok : Sound l) (g : Goal) (fit : Fits (signature_of l.declared) (sequent g)) where
  abbrev s : Signature
  s = signature_of l.declared

  abbrev Q : ℕ → Type 0
  Q = IsAvailable l

  abbrev n : ℕ
  n = length g.vars

  abbrev h : List Fm
  h = map hyp_formula g.hyps

  abbrev T : List Frame → List Sequent → List Sequent → Type 0
  T = Turns s l.theorems Q

  abbrev G : List Goal → List Frame → Type 0
  G new fs = Good l (sequent g) (map sequent new) fs

  -- a hypothesis that changes: d proves what it says now
  pub changed : (f : Found) (a : Fm) (new : List Goal) (d : Pf) → changed_to g f a ∷ [] ≡ new → fits s n 0 a ≡ true → Proves s l.theorems Q n h a d → G new (cut a d ∷ [])
  changed f a new d e fa p =
      one_goal l ok g fit (changed_to g f a) new (cut a d ∷ []) (at n (h ++ a ∷ []) g.target) (omega arith) e (sequent-changed g f a) (λ rest. turn-cut s l.theorems Q n h rest a g.target d fa p)
      (fit_push s n h a fit.0 fa, fit.1)

  pub found-fits : (f : Found) → slice_get h f.number ≡ Some f.hyp.formula → fits s n 0 f.hyp.formula ≡ true
  found-fits f there = fit_at s n h f.number f.hyp.formula fit.0 there

  -- `symm`
  pub good-symm : (new : List Goal) → symmetric g ≡ Ok new → G new (symm_frames (length h) g.target)
  good-symm new e =
      let x = then-ok (swapped g.target) (λ a. Ok (aimed a g ∷ [])) new e in
      go g.target refl x.0 x.1 (cc)
    where
      turned : (t u : Tm) → g.target ≡ eq t u → aimed (eq u t) g ∷ [] ≡ new → G new (symm_frames (length h) (eq t u))
      turned t u is r =
          let f = and_parts _ _ (subst (λ c. fits s n 0 c ≡ true) is fit.1) in
          one_goal l ok g fit (aimed (eq u t) g) new (change (eq u t) (flipped u t (hyp (length h))) ∷ []) (at n h (eq u t)) (omega arith) r refl
          (λ rest. subst (λ c. T (change (eq u t) (flipped u t (hyp (length h))) ∷ []) (at n h c ∷ rest) (at n h (eq u t) ∷ rest)) (sym is) (turn-symm s l.theorems Q n h rest t u f.0 f.1))
          (fit.0, and_from _ _ f.1 f.0)

      turned_not : (t u : Tm) → g.target ≡ imp (eq t u) falsum → aimed (imp (eq u t) falsum) g ∷ [] ≡ new → G new (symm_frames (length h) (imp (eq t u) falsum))
      turned_not t u is r =
          let f = and_parts _ _ (and_parts _ _ (subst (λ c. fits s n 0 c ≡ true) is fit.1)).0 in
          let d = impi (impe (eq u t) (hyp (length h)) (flipped t u (hyp (length h + 1)))) in
          one_goal l ok g fit (aimed (imp (eq u t) falsum) g) new (change (imp (eq u t) falsum) d ∷ []) (at n h (imp (eq u t) falsum)) (omega arith) r refl
          (λ rest. subst (λ c. T (change (imp (eq u t) falsum) d ∷ []) (at n h c ∷ rest) (at n h (imp (eq u t) falsum) ∷ rest)) (sym is) (turn-symm_not s l.theorems Q n h rest t u f.0 f.1))
          (fit.0, and_from _ _ (and_from _ _ f.1 f.0) refl)

      go : (c : Fm) → g.target ≡ c → (a : Fm) → swapped c ≡ Ok a → aimed a g ∷ [] ≡ new → G new (symm_frames (length h) c)
      go (eq t u) is a e r = let q : eq u t ≡ a = cc in turned t u is (ap (λ a. aimed a g ∷ []) q ∙ r)
      go (imp (eq t u) falsum) is a e r = let q : imp (eq u t) falsum ≡ a = cc in turned_not t u is (ap (λ a. aimed a g ∷ []) q ∙ r)
      go _ is a e r = absurd (cc)

  -- `have h : A`
  pub good-assert : (a : Fm) → fits s n 0 a ≡ true → (x : Name) (new : List Goal) → aimed a g ∷ with_hyp x a g ∷ [] ≡ new → G new (lemma a (length h) ∷ [])
  good-assert a fa x new e =
      two_goals l ok g fit (aimed a g) (with_hyp x a g) new (lemma a (length h) ∷ []) (at n h a) (at n (h ++ a ∷ []) g.target) (omega arith) (omega arith) e refl (sym (sequent-with_hyp x a g))
      (λ rest. turn-lemma s l.theorems Q n h rest a g.target fa) (fit.0, fa) (fit_push s n h a fit.0 fa, fit.1)

  pub works-assert : (x : Word) (p : Part) → Works l g (asserted l g x p)
  works-assert x p new e =
      let y = then-ok (formula_there l g p) (λ a. and_then (given_name l (live_names g) x) (λ m. Ok (aimed a g ∷ with_hyp m a g ∷ []))) new e in
      let z = then-ok (given_name l (live_names g) x) (λ m. Ok (aimed y.0 g ∷ with_hyp m y.0 g ∷ [])) new y.2 in
      (lemma y.0 (length h) ∷ [], good-assert y.0 (ok.formulas g p y.0 (wanted-ok (read_formula l g p) (WrongArgument (begins p)) y.0 y.1)) z.0 new (cc))

  -- `by_cases h : A`
  pub good-by_cases : (a : Fm) → fits s n 0 a ≡ true → (x : Name) (new : List Goal) → with_hyp x a g ∷ with_hyp x (imp a falsum) g ∷ [] ≡ new → G new (split a (imp a falsum) lem ∷ [])
  good-by_cases a fa x new e =
      let fn : fits s n 0 (imp a falsum) ≡ true = and_from _ _ fa refl in
      two_goals l ok g fit (with_hyp x a g) (with_hyp x (imp a falsum) g) new (split a (imp a falsum) lem ∷ []) (at n (h ++ a ∷ []) g.target) (at n (h ++ imp a falsum ∷ []) g.target) (omega arith) (omega arith) e
      (sym (sequent-with_hyp x a g)) (sym (sequent-with_hyp x (imp a falsum) g))
      (λ rest. turn-by_cases s l.theorems Q n h rest a g.target fa) (fit_push s n h a fit.0 fa, fit.1) (fit_push s n h (imp a falsum) fit.0 fn, fit.1)

  pub works-by_cases : (x : Word) (p : Part) → Works l g (by_cases_of l g x p)
  works-by_cases x p new e =
      let y = then-ok (formula_there l g p) (λ a. and_then (given_name l (live_names g) x) (λ m. Ok (with_hyp m a g ∷ with_hyp m (imp a falsum) g ∷ []))) new e in
      let z = then-ok (given_name l (live_names g) x) (λ m. Ok (with_hyp m y.0 g ∷ with_hyp m (imp y.0 falsum) g ∷ [])) new y.2 in
      (split y.0 (imp y.0 falsum) lem ∷ [], good-by_cases y.0 (ok.formulas g p y.0 (wanted-ok (read_formula l g p) (WrongArgument (begins p)) y.0 y.1)) z.0 new (cc))

  -- `have h := e`, `have h : A := e`
  said-shown : (o : Option Part) (e : Expression) (a : Fm) → said_or_given l g o e ≡ Ok a → Shown l g a
  said-shown None e a q =
      let k = given-has l ok g fit e a (tried-ok (gives l g e) a q) in
      record { fitting = k.fitting; proof = k.proof; proves = from_gives s l.theorems Q n h a k.proof k.proves }
  said-shown (Some p) e a q =
      let x = then-ok (formula_there l g p) (λ a. and_then (given l g e) (λ c. if same_formula c a then Ok a else Err (NotSame c))) a q in
      let y = then-ok (given l g e) (λ c. if same_formula c x.0 then Ok x.0 else Err (NotSame c)) a x.2 in
      let z = if-ok (same_formula y.0 x.0) x.0 a (NotSame y.0) y.2 in
      let k = given-has l ok g fit e y.0 (tried-ok (gives l g e) y.0 y.1) in
      let fa = ok.formulas g p x.0 (wanted-ok (read_formula l g p) (WrongArgument (begins p)) x.0 x.1) in
      subst (Shown l g) z.1 (record { fitting = fa; proof = k.proof; proves = k.proves x.0 z.0 })

  pub good-had : (a : Fm) (d : Pf) → fits s n 0 a ≡ true → Proves s l.theorems Q n h a d → (x : Name) (new : List Goal) → with_hyp x a g ∷ [] ≡ new → G new (cut a d ∷ [])
  good-had a d fa p x new e =
      one_goal l ok g fit (with_hyp x a g) new (cut a d ∷ []) (at n (h ++ a ∷ []) g.target) (omega arith) e (sym (sequent-with_hyp x a g))
      (λ rest. turn-cut s l.theorems Q n h rest a g.target d fa p) (fit_push s n h a fit.0 fa, fit.1)

  pub works-had : (x : Word) (o : Option Part) (e : Expression) → Works l g (had l g x o e)
  works-had x o e new q =
      let y = then-ok (said_or_given l g o e) (λ a. and_then (given_name l (live_names g) x) (λ m. Ok (with_hyp m a g ∷ []))) new q in
      let z = then-ok (given_name l (live_names g) x) (λ m. Ok (with_hyp m y.0 g ∷ [])) new y.2 in
      let k = said-shown o e y.0 y.1 in
      (cut y.0 k.proof ∷ [], good-had y.0 k.proof k.fitting k.proves z.0 new (cc))

  -- `revert h`
  pub good-revert_hyp : (f : Found) → slice_get h f.number ≡ Some f.hyp.formula → (new : List Goal) → reverted_hyp g f ∷ [] ≡ new → G new (give f.hyp.formula f.number ∷ [])
  good-revert_hyp f there new e =
      let a = f.hyp.formula in
      let fa = found-fits f there in
      one_goal l ok g fit (reverted_hyp g f) new (give a f.number ∷ []) (at n h (imp a g.target)) (omega arith) e (ap (λ q. at q.vars q.hyps (imp a g.target)) (sym (sequent-without_hyp f.number g)))
      (λ rest. turn-give s l.theorems Q n h rest a g.target f.number fa there) (fit.0, and_from _ _ fa fit.1)

  -- `symm at h`
  pub good-symm_at : (f : Found) → slice_get h f.number ≡ Some f.hyp.formula → (a : Fm) → swapped f.hyp.formula ≡ Ok a → (new : List Goal) → changed_to g f a ∷ [] ≡ new →
      G new (cut a (swapped_proof f.number (length h) f.hyp.formula) ∷ [])
  good-symm_at f there a e new r = go f there f.hyp.formula refl a e new r
    where
      turned : (f : Found) (t u : Tm) → slice_get h f.number ≡ Some (eq t u) → (new : List Goal) → changed_to g f (eq u t) ∷ [] ≡ new → G new (cut (eq u t) (swapped_proof f.number (length h) (eq t u)) ∷ [])
      turned f t u there new r =
          let q = and_parts _ _ (fit_at s n h f.number (eq t u) fit.0 there) in
          changed f (eq u t) new (flipped t u (hyp f.number)) r (and_from _ _ q.1 q.0)
          (from_gives s l.theorems Q n h (eq u t) _ (by_flipped s l.theorems Q n h t u (hyp f.number) q.0 q.1 (from_gives s l.theorems Q n h (eq t u) _ (by_hyp s l.theorems Q n h f.number (eq t u) there))))

      turned_not : (f : Found) (t u : Tm) → slice_get h f.number ≡ Some (imp (eq t u) falsum) → (new : List Goal) → changed_to g f (imp (eq u t) falsum) ∷ [] ≡ new →
          G new (cut (imp (eq u t) falsum) (swapped_proof f.number (length h) (imp (eq t u) falsum)) ∷ [])
      turned_not f t u there new r =
          let q = and_parts _ _ (and_parts _ _ (fit_at s n h f.number (imp (eq t u) falsum) fit.0 there)).0 in
          let e' : fits s n 0 (eq t u) ≡ true = and_from _ _ q.0 q.1 in
          let h1 = h ++ eq u t ∷ [] in
          let y = by_flipped s l.theorems Q n h1 u t (hyp (length h)) q.1 q.0 (from_gives s l.theorems Q n h1 (eq u t) _ (by_hyp s l.theorems Q n h1 (length h) (eq u t) (at_end h (eq u t)))) in
          let x = by_hyp s l.theorems Q n h1 f.number (imp (eq t u) falsum) (at_more h (eq u t ∷ []) f.number (imp (eq t u) falsum) there) in
          changed f (imp (eq u t) falsum) new (impi (impe (eq t u) (hyp f.number) (flipped u t (hyp (length h))))) r (and_from _ _ (and_from _ _ q.1 q.0) refl)
          (by_impi s l.theorems Q n h (eq u t) falsum _
          (by_impe s l.theorems Q n h1 (eq t u) falsum (hyp f.number) (flipped u t (hyp (length h))) e' (from_gives s l.theorems Q n h1 (imp (eq t u) falsum) _ x) (from_gives s l.theorems Q n h1 (eq t u) _ y)))

      go : (f : Found) → slice_get h f.number ≡ Some f.hyp.formula → (c : Fm) → f.hyp.formula ≡ c → (a : Fm) → swapped c ≡ Ok a → (new : List Goal) → changed_to g f a ∷ [] ≡ new →
          G new (cut a (swapped_proof f.number (length h) c) ∷ [])
      go f there (eq t u) is a e new r =
          let q : eq u t ≡ a = cc in
          subst (λ a. G new (cut a (swapped_proof f.number (length h) (eq t u)) ∷ [])) q (turned f t u (there ∙ ap Some is) new (ap (λ a. changed_to g f a ∷ []) q ∙ r))
      go f there (imp (eq t u) falsum) is a e new r =
          let q : imp (eq u t) falsum ≡ a = cc in
          subst (λ a. G new (cut a (swapped_proof f.number (length h) (imp (eq t u) falsum)) ∷ [])) q (turned_not f t u (there ∙ ap Some is) new (ap (λ a. changed_to g f a ∷ []) q ∙ r))
      go f there _ is a e new r = absurd (cc)

  -- ---- the same without saying the frames

  pub works-symm : Works l g (symmetric g)
  works-symm new e = (symm_frames (length h) g.target, good-symm new e)

  pub works-symm_at : (x : Word) → Works l g (symmetric_at g x)
  works-symm_at x new e =
      let y = then-ok (hypothesis_there g x) (λ f. and_then (swapped f.hyp.formula) (λ a. Ok (changed_to g f a ∷ []))) new e in
      let f = y.0 in
      let z = then-ok (swapped f.hyp.formula) (λ a. Ok (changed_to g f a ∷ [])) new y.2 in
      let there = found-there g x.text f (wanted-ok (hypothesis g x.text) (NoSuchName x.at) f y.1) in
      (cut z.0 (swapped_proof f.number (length h) f.hyp.formula) ∷ [], good-symm_at f there z.0 z.1 new (cc))

  pub works-revert_hyp : (f : Found) → slice_get h f.number ≡ Some f.hyp.formula → Works l g (Ok (reverted_hyp g f ∷ []))
  works-revert_hyp f there new e = (give f.hyp.formula f.number ∷ [], good-revert_hyp f there new (cc))
