-- The acts on the form of the target: proofs of the new goals make one of the old goal, and the new goals fit.
use Rattle.std.proofs.Common.{◌≡◌, ℕ, zero, suc, ◌+◌, ◌<◌, ◌≤◌, List, [], ◌∷◌, ◌++◌, length, map, true, Option, Some, None, refl, arith, ap, sym, ◌∙◌, subst, length-append}
use Rattle.std.specs.List.{AllByRecursion}
use Rattle.std.specs.Prelude.{Ok, Err}
use Rattle.std.proofs.lemmas.Bool.{and_parts, lt-ltb}
use Rattle.pg_base.specs.Tokens.{Word}
use Rattle.pg_logic.specs.Tree.{Tm, free, Fm, falsum, eq, pred, and, or, imp, all, ex, same, same_formula, opened_formula}
use Rattle.pg_logic.specs.Signature.{Signature, IsDeclared, fits, fits_term}
use Rattle.pg_logic.specs.Declarations.{signature_of}
use Rattle.pg_logic.specs.Kernel.{Pf, reflexive}
use Rattle.pg_logic.proofs.Fitting.{fits-le, fits-opened}
use Rattle.pg_logic.proofs.Stable.{same-true}
use Rattle.pg_logic.proofs.Unfold.{unfolds}
use Rattle.pg_script.specs.Data.{Part, Expression}
use Rattle.pg_moves.specs.Goals.{Goal, live_names, aimed, with_var, with_hyp}
use Rattle.pg_moves.specs.Causes.{Tried, SidesDiffer, WrongArgument, NotSame}
use Rattle.pg_moves.specs.Lookup.{Lookup, given_name, IsAvailable}
use Rattle.pg_moves.specs.Expressions.{Given, gives, read_term, begins}
use Rattle.pg_moves.specs.Closing.{tried, given, term_there, form_at, unfolded_within, goal_form, reflexivity, closed_by, exactly, intro_of, left_of, right_of, both_of, witness_of, witnessed}
use Rattle.pg_moves.specs.Proofs.{Sequent, Proves, hyp_formula, sequent}
use Rattle.pg_moves.proofs.ByRecursion.{AllFit, Fits, AllFitting}
use Rattle.pg_moves.specs.Framing.{intro_frame}
use Rattle.pg_moves.specs.Frames.{Frame, whole, under_alli, under_impi, under_orl, under_orr, under_fale, under_exi, pair, Turns, predis, way}
use Rattle.pg_moves.proofs.Rules.{Gives, by_refl}
use Rattle.pg_moves.proofs.Turning.{at, turns-then, turn-whole, turn-alli, turn-impi, turn-orl, turn-orr, turn-fale, turn-exi, turn-pair}
use Rattle.pg_moves.proofs.Moved.{turn-unfolded}
use Rattle.pg_moves.proofs.Sequents.{then-ok, wanted-ok, if-ok, sequent-with_hyp}
use Rattle.pg_moves.proofs.Given.{Sound, given-has}

-- none of the goals has more variables
abbrev pub FewVars : ℕ → List Sequent → Type 0
FewVars m qs = AllByRecursion (λ (q : Sequent). q.vars ≤ m) qs

-- what the frames of an act are good for: proofs of the new goals make one of the old goal, the new goals fit, and
-- have one variable more at most
pub record Good (l : Lookup) (q : Sequent) (new : List Sequent) (fs : List Frame) : Type 0 where
  pub turns : (rest : List Sequent) → Turns (signature_of l.declared) l.theorems (IsAvailable l) fs (q ∷ rest) (new ++ rest)
  pub fitting : AllFitting (signature_of l.declared) new
  pub few : FewVars (q.vars + 1) new

-- an act that goes well has frames
abbrev pub Works : Lookup → Goal → Tried (List Goal) → Type 0
Works l g tried = (new : List Goal) → tried ≡ Ok new → (fs : List Frame) × Good l (sequent g) (map sequent new) fs

pub tried-ok : (x : Given) (a : Fm) → tried x ≡ Ok a → x ≡ Ok a
tried-ok (Ok b) a e = let is : b ≡ a = cc in ap Ok is
tried-ok (Err f) a e = absurd (cc)

pub fit_push : (s : Signature) (n : ℕ) (h : List Fm) (a : Fm) → AllFit s n h → fits s n 0 a ≡ true → AllFit s n (h ++ a ∷ [])
fit_push s n [] a t x = (x, tt)
fit_push s n (b ∷ h) a t x = (t.0, fit_push s n h a t.1 x)

pub fit_more : (s : Signature) (n : ℕ) (h : List Fm) → AllFit s n h → AllFit s (n + 1) h
fit_more s n [] t = tt
fit_more s n (a ∷ h) t = (fits-le s n (n + 1) 0 0 a (omega arith) (omega arith) t.0, fit_more s n h t.1)

pub opens_newest : (s : Signature) (n : ℕ) (a : Fm) → fits s n 1 a ≡ true → fits s (n + 1) 0 (opened_formula (free n) a) ≡ true
opens_newest s n a fa = fits-opened s (n + 1) (free n) a (lt-ltb n (n + 1) (omega arith)) (fits-le s n (n + 1) 1 1 a (omega arith) (omega arith) fa)

-- a formula and what it is unfolded to
fits-found : (s : Signature) (d : IsDeclared s) (n : ℕ) (a : Fm) (more : Fm → Fm) (o : Option Fm) → Rattle.pg_logic.specs.Kernel.unfolded s a ≡ o → fits s n 0 a ≡ true →
    ((b : Fm) → fits s n 0 b ≡ true → fits s n 0 (more b) ≡ true) → fits s n 0 (form_at a more o) ≡ true
fits-found s d n a more None e f go = f
fits-found s d n a more (Some b) e f go = go b (unfolds s d n a f b e).fitting

pub fits-unfolded : (s : Signature) → IsDeclared s → (n k : ℕ) (a : Fm) → fits s n 0 a ≡ true → fits s n 0 (unfolded_within k s a) ≡ true
fits-unfolded s d n zero a f = f
fits-unfolded s d n (suc k) a f = fits-found s d n a (unfolded_within k s) (Rattle.pg_logic.specs.Kernel.unfolded s a) refl f (fits-unfolded s d n k)

module _ (l : Lookup) (ok : Sound l) (g : Goal) (fit : Fits (signature_of l.declared) (sequent g)) where
  abbrev s : Signature
  s = signature_of l.declared

  abbrev Q : ℕ → Type 0
  Q = IsAvailable l

  abbrev n : ℕ
  n = length g.vars

  abbrev h : List Fm
  h = map hyp_formula g.hyps

  abbrev T : List Frame → List Sequent → List Sequent → Type 0
  T = Turns s l.theorems Q

  abbrev G : List Goal → List Frame → Type 0
  G new fs = Good l (sequent g) (map sequent new) fs

  -- no new goal
  pub shut : (new : List Goal) (d : Pf) → [] ≡ new → Proves s l.theorems Q n h g.target d → G new (whole d ∷ [])
  shut new d e p = subst (λ new. G new (whole d ∷ [])) e (record { turns = λ rest ps a. turn-whole s l.theorems Q n h rest g.target d p ps a; fitting = tt; few = tt })

  -- `rfl`
  pub good-rfl : (new : List Goal) → reflexivity g.target ≡ Ok new → G new (whole reflexive ∷ [])
  good-rfl new e = go g.target refl new e
    where
      go : (c : Fm) → g.target ≡ c → (new : List Goal) → reflexivity c ≡ Ok new → G new (whole reflexive ∷ [])
      go (eq t u) is new e =
          let x = if-ok (same t u) [] new (SidesDiffer t u) e in
          let q : eq t t ≡ g.target = ap (eq t) (same-true t u x.0) ∙ sym is in
          shut new reflexive x.1 (subst (λ c. Proves s l.theorems Q n h c reflexive) q (by_refl s l.theorems Q n h t))
      go falsum is new e = absurd (cc)
      go (pred q ts) is new e = absurd (cc)
      go (and a b) is new e = absurd (cc)
      go (or a b) is new e = absurd (cc)
      go (imp a b) is new e = absurd (cc)
      go (all x a) is new e = absurd (cc)
      go (ex x a) is new e = absurd (cc)

  -- `exact e`, by a proof of what e gives
  pub good-exact : (a : Fm) (d : Pf) → Gives s l.theorems Q n h a d → (new : List Goal) → closed_by g.target a ≡ Ok new → G new (whole d ∷ [])
  good-exact a d p new q = let y = if-ok (same_formula a g.target) [] new (NotSame a) q in shut new d y.1 (p g.target y.0)

  -- ---- one new goal, two new goals

  pub one_goal : (x : Goal) (new : List Goal) (fs : List Frame) (q : Sequent) → q.vars ≤ n + 1 → x ∷ [] ≡ new → q ≡ sequent x → ((rest : List Sequent) → T fs (sequent g ∷ rest) (q ∷ rest)) → Fits s q → G new fs
  one_goal x new fs q le e is t f =
      subst (λ new. G new fs) e (subst (λ q. Good l (sequent g) (q ∷ []) fs) is (record { turns = λ rest ps a. t rest ps a; fitting = (f, tt); few = (le, tt) }))

  pub two_goals : (x y : Goal) (new : List Goal) (fs : List Frame) (q r : Sequent) → q.vars ≤ n + 1 → r.vars ≤ n + 1 → x ∷ y ∷ [] ≡ new → q ≡ sequent x → r ≡ sequent y →
      ((rest : List Sequent) → T fs (sequent g ∷ rest) (q ∷ r ∷ rest)) → Fits s q → Fits s r → G new fs
  two_goals x y new fs q r le le' e is is' t f f' =
      subst (λ new. G new fs) e (subst (λ q. Good l (sequent g) (q ∷ sequent y ∷ []) fs) is (subst (λ r. Good l (sequent g) (q ∷ r ∷ []) fs) is' (record { turns = λ rest ps a. t rest ps a; fitting = (f, (f', tt)); few = (le, (le', tt)) })))

  -- ---- the unfolded target

  abbrev long : ℕ
  long = length (signature_of l.declared).predicates

  abbrev opening : List Frame
  opening = predis (length (way long s g.target))

  pub unfolding_then : (c : Fm) → goal_form l g ≡ c → (fs : List Frame) (to : List Sequent → List Sequent) → ((rest : List Sequent) → T fs (at n h c ∷ rest) (to rest)) → (rest : List Sequent) → T (opening ++ fs) (sequent g ∷ rest) (to rest)
  unfolding_then c is fs to t rest =
      turns-then s l.theorems Q opening fs (sequent g ∷ rest) (at n h c ∷ rest) (to rest)
      (subst (λ c. T opening (sequent g ∷ rest) (at n h c ∷ rest)) is (turn-unfolded s l.theorems Q n h rest long g.target)) (t rest)

  pub form-fits : (c : Fm) → goal_form l g ≡ c → fits s n 0 c ≡ true
  form-fits c is = subst (λ c. fits s n 0 c ≡ true) is (fits-unfolded s ok.declared n long g.target fit.1)

  -- `intro x`
  pub good-intro : n < 4294967295 → (x : Word) (new : List Goal) → intro_of l g x (goal_form l g) ≡ Ok new → G new (opening ++ intro_frame (goal_form l g) ∷ [])
  good-intro room x new e = go (goal_form l g) refl e
    where
      go : (c : Fm) → goal_form l g ≡ c → intro_of l g x c ≡ Ok new → G new (opening ++ intro_frame c ∷ [])
      go (all y a) is e =
          let z = then-ok (given_name l (live_names g) x) (λ m. Ok (aimed (opened_formula (free n) a) (with_var m g) ∷ [])) new e in
          let body = opened_formula (free n) a in
          let at_new : at (n + 1) h body ≡ sequent (aimed body (with_var z.0 g)) = ap (λ k. at k h body) (sym (length-append g.vars (record { name = z.0; live = true } ∷ []))) in
          one_goal (aimed body (with_var z.0 g)) new (opening ++ under_alli ∷ []) (at (n + 1) h body) (omega arith) (cc) at_new
          (unfolding_then (all y a) is (under_alli ∷ []) (λ rest. at (n + 1) h body ∷ rest) (λ rest. turn-alli s l.theorems Q n h rest y a room))
          (fit_more s n h fit.0, opens_newest s n a (form-fits (all y a) is))
      go (imp a b) is e =
          let z = then-ok (given_name l (live_names g) x) (λ m. Ok (aimed b (with_hyp m a g) ∷ [])) new e in
          let f = and_parts _ _ (form-fits (imp a b) is) in
          let at_new : at n (h ++ a ∷ []) b ≡ sequent (aimed b (with_hyp z.0 a g)) = ap (λ q. at q.vars q.hyps b) (sym (sequent-with_hyp z.0 a g)) in
          one_goal (aimed b (with_hyp z.0 a g)) new (opening ++ under_impi ∷ []) (at n (h ++ a ∷ []) b) (omega arith) (cc) at_new
          (unfolding_then (imp a b) is (under_impi ∷ []) (λ rest. at n (h ++ a ∷ []) b ∷ rest) (λ rest. turn-impi s l.theorems Q n h rest a b))
          (fit_push s n h a fit.0 f.0, f.1)
      go falsum is e = absurd (cc)
      go (eq t u) is e = absurd (cc)
      go (pred q ts) is e = absurd (cc)
      go (and a b) is e = absurd (cc)
      go (or a b) is e = absurd (cc)
      go (ex y a) is e = absurd (cc)

  -- `left`, `right`
  pub good-left : (new : List Goal) → left_of g (goal_form l g) ≡ Ok new → G new (opening ++ under_orl ∷ [])
  good-left new e = go (goal_form l g) refl e
    where
      go : (c : Fm) → goal_form l g ≡ c → left_of g c ≡ Ok new → G new (opening ++ under_orl ∷ [])
      go (or a b) is e =
          let f = and_parts (fits s n 0 a) (fits s n 0 b) (form-fits (or a b) is) in
          one_goal (aimed a g) new (opening ++ under_orl ∷ []) (at n h a) (omega arith) (cc) refl
          (unfolding_then (or a b) is (under_orl ∷ []) (λ rest. at n h a ∷ rest) (λ rest. turn-orl s l.theorems Q n h rest a b)) (fit.0, f.0)
      go falsum is e = absurd (cc)
      go (eq t u) is e = absurd (cc)
      go (pred q ts) is e = absurd (cc)
      go (and a b) is e = absurd (cc)
      go (imp a b) is e = absurd (cc)
      go (all y a) is e = absurd (cc)
      go (ex y a) is e = absurd (cc)

  pub good-right : (new : List Goal) → right_of g (goal_form l g) ≡ Ok new → G new (opening ++ under_orr ∷ [])
  good-right new e = go (goal_form l g) refl e
    where
      go : (c : Fm) → goal_form l g ≡ c → right_of g c ≡ Ok new → G new (opening ++ under_orr ∷ [])
      go (or a b) is e =
          let f = and_parts (fits s n 0 a) (fits s n 0 b) (form-fits (or a b) is) in
          one_goal (aimed b g) new (opening ++ under_orr ∷ []) (at n h b) (omega arith) (cc) refl
          (unfolding_then (or a b) is (under_orr ∷ []) (λ rest. at n h b ∷ rest) (λ rest. turn-orr s l.theorems Q n h rest a b)) (fit.0, f.1)
      go falsum is e = absurd (cc)
      go (eq t u) is e = absurd (cc)
      go (pred q ts) is e = absurd (cc)
      go (and a b) is e = absurd (cc)
      go (imp a b) is e = absurd (cc)
      go (all y a) is e = absurd (cc)
      go (ex y a) is e = absurd (cc)

  -- `constructor`
  pub good-both : (new : List Goal) → both_of g (goal_form l g) ≡ Ok new → G new (opening ++ pair ∷ [])
  good-both new e = go (goal_form l g) refl e
    where
      go : (c : Fm) → goal_form l g ≡ c → both_of g c ≡ Ok new → G new (opening ++ pair ∷ [])
      go (and a b) is e =
          let f = and_parts _ _ (form-fits (and a b) is) in
          two_goals (aimed a g) (aimed b g) new (opening ++ pair ∷ []) (at n h a) (at n h b) (omega arith) (omega arith) (cc) refl refl
          (unfolding_then (and a b) is (pair ∷ []) (λ rest. at n h a ∷ at n h b ∷ rest) (λ rest. turn-pair s l.theorems Q n h rest a b)) (fit.0, f.0) (fit.0, f.1)
      go falsum is e = absurd (cc)
      go (eq t u) is e = absurd (cc)
      go (pred q ts) is e = absurd (cc)
      go (or a b) is e = absurd (cc)
      go (imp a b) is e = absurd (cc)
      go (all y a) is e = absurd (cc)
      go (ex y a) is e = absurd (cc)

  -- `use t`
  pub good-witness : (t : Tm) → fits_term s.functions n 0 t ≡ true → (new : List Goal) → witness_of g t (goal_form l g) ≡ Ok new → G new (opening ++ under_exi t ∷ [])
  good-witness t ft new e = go t ft (goal_form l g) refl e
    where
      go : (t : Tm) → fits_term s.functions n 0 t ≡ true → (c : Fm) → goal_form l g ≡ c → witness_of g t c ≡ Ok new → G new (opening ++ under_exi t ∷ [])
      go t ft (ex y a) is e =
          one_goal (aimed (opened_formula t a) g) new (opening ++ under_exi t ∷ []) (at n h (opened_formula t a)) (omega arith) (cc) refl
          (unfolding_then (ex y a) is (under_exi t ∷ []) (λ rest. at n h (opened_formula t a) ∷ rest) (λ rest. turn-exi s l.theorems Q n h rest y a t ft))
          (fit.0, fits-opened s n t a ft (form-fits (ex y a) is))
      go t ft falsum is e = absurd (cc)
      go t ft (eq q u) is e = absurd (cc)
      go t ft (pred q ts) is e = absurd (cc)
      go t ft (and a b) is e = absurd (cc)
      go t ft (or a b) is e = absurd (cc)
      go t ft (imp a b) is e = absurd (cc)
      go t ft (all y a) is e = absurd (cc)

  -- `exfalso`
  pub good-exfalso : (new : List Goal) → aimed falsum g ∷ [] ≡ new → G new (under_fale ∷ [])
  good-exfalso new e =
      one_goal (aimed falsum g) new (under_fale ∷ []) (at n h falsum) (omega arith) e refl (λ rest. turn-fale s l.theorems Q n h rest g.target) (fit.0, refl)

  -- ---- the same without saying the frames

  pub works-rfl : Works l g (reflexivity g.target)
  works-rfl new e = (whole reflexive ∷ [], good-rfl new e)

  pub works-exact : (e : Expression) → Works l g (exactly l g e)
  works-exact e new q =
      let x = then-ok (given l g e) (closed_by g.target) new q in
      let k = given-has l ok g fit e x.0 (tried-ok (gives l g e) x.0 x.1) in
      (whole k.proof ∷ [], good-exact x.0 k.proof k.proves new x.2)

  pub works-intro : n < 4294967295 → (x : Word) → Works l g (intro_of l g x (goal_form l g))
  works-intro room x new e = (opening ++ intro_frame (goal_form l g) ∷ [], good-intro room x new e)

  pub works-left : Works l g (left_of g (goal_form l g))
  works-left new e = (opening ++ under_orl ∷ [], good-left new e)

  pub works-right : Works l g (right_of g (goal_form l g))
  works-right new e = (opening ++ under_orr ∷ [], good-right new e)

  pub works-both : Works l g (both_of g (goal_form l g))
  works-both new e = (opening ++ pair ∷ [], good-both new e)

  pub works-witness : (p : Part) → Works l g (witnessed l g p)
  works-witness p new e =
      let x = then-ok (term_there l g p) (λ t. witness_of g t (goal_form l g)) new e in
      let ft = ok.terms g p x.0 (wanted-ok (read_term l g p) (WrongArgument (begins p)) x.0 x.1) in
      (opening ++ under_exi x.0 ∷ [], good-witness x.0 ft new x.2)

  pub works-exfalso : Works l g (Ok (aimed falsum g ∷ []))
  works-exfalso new e = (under_fale ∷ [], good-exfalso new (cc))
