-- `revert`, `induction` and `cases` of a variable: the frames of each, and that its new goals fit.
use Rattle.std.proofs.Common.{◌≡◌, ℕ, ◌+◌, ◌<◌, List, [], ◌∷◌, ◌++◌, length, map, true, refl, arith, ap, sym, ◌∙◌}
use Rattle.std.specs.Prelude.{Ok}
use Rattle.std.proofs.lemmas.Bool.{and_from, lt-ltb}
use Rattle.pg_base.specs.Tokens.{Word}
use Rattle.pg_logic.specs.Tree.{Tm, free, nought, succ, Fm, all, closed_over_formula}
use Rattle.pg_logic.specs.Signature.{Signature, fits, fits_term}
use Rattle.pg_logic.specs.Declarations.{Name, signature_of}
use Rattle.pg_logic.specs.Kernel.{hyp, alle}
use Rattle.pg_moves.specs.Goals.{Goal, with_var, with_hyp, without_hyp, without_var}
use Rattle.pg_moves.specs.Causes.{and_then}
use Rattle.pg_moves.specs.Lookup.{Lookup, IsAvailable}
use Rattle.pg_moves.specs.Holding.{Carried, carried, without_hyps, without_held, formulas_of, imps, before, put_for}
use Rattle.pg_moves.specs.Assuming.{at_most, reverted_var}
use Rattle.pg_moves.specs.Inducting.{with_copies, base_goal, step_goal, induction_hyp, new_variable, new_hypothesis, cases_of_var, induction_of_var}
use Rattle.pg_moves.specs.Proofs.{Sequent, hyp_formula, sequent}
use Rattle.pg_moves.proofs.ByRecursion.{AllFit, Fits}
use Rattle.pg_moves.specs.Frames.{change, induct, parts, gives_all}
use Rattle.pg_moves.proofs.Turning.{at}
use Rattle.pg_moves.proofs.Moved.{append_nil, append_assoc, Stand, turn-revert, turn-induction, turn-parts}
use Rattle.pg_moves.proofs.Carrying.{stands}
use Rattle.pg_moves.proofs.Maps.{fits-closed}
use Rattle.pg_moves.proofs.Fitted.{fits-put, fits-induction, all_fit-append, all_fit-more, all_fit-put}
use Rattle.pg_moves.proofs.Sequents.{then-ok, and_hyp, and_var, sequent-with_hyp, sequent-with_var, sequent-without_hyp, sequent-without_var}
use Rattle.pg_moves.proofs.Given.{Sound}
use Rattle.pg_moves.proofs.Good.{Good, Works, one_goal, two_goals}

sequent-without_hyps : (cs : List Carried) (g : Goal) → sequent (without_hyps cs g) ≡ sequent g
sequent-without_hyps [] g = refl
sequent-without_hyps (c ∷ cs) g = sequent-without_hyps cs (without_hyp c.number g) ∙ sequent-without_hyp c.number g

-- the dead stand there as before
pub sequent-without_held : (k : ℕ) (g : Goal) → sequent (without_held k g) ≡ sequent g
sequent-without_held k g = sequent-without_hyps (carried k g) (without_var k g) ∙ sequent-without_var k g

-- hypotheses more
abbrev and_hyps : List Fm → Sequent → Sequent
and_hyps hs q = at q.vars (q.hyps ++ hs) q.target

sequent-with_copies : (k : ℕ) (t : Tm) (cs : List Carried) (g : Goal) → sequent (with_copies k t cs g) ≡ and_hyps (map (put_for k t) (formulas_of cs)) (sequent g)
sequent-with_copies k t [] g = ap (λ hs. at (length g.vars) hs g.target) (sym (append_nil (map hyp_formula g.hyps)))
sequent-with_copies k t (c ∷ cs) g =
    let a = put_for k t c.hyp.formula in
    let more = map (put_for k t) (formulas_of cs) in
    sequent-with_copies k t cs (with_hyp c.hyp.name a g) ∙ ap (and_hyps more) (sequent-with_hyp c.hyp.name a g)
    ∙ ap (λ hs. at (length g.vars) hs g.target) (append_assoc (map hyp_formula g.hyps) (a ∷ []) more)

-- with another target
abbrev aimed_at : Fm → Sequent → Sequent
aimed_at c q = at q.vars q.hyps c

module _ (l : Lookup) (ok : Sound l) (g : Goal) (fit : Fits (signature_of l.declared) (sequent g)) (room : length g.vars + 1 < 4294967295) (v : ℕ) (there : v < length g.vars) where
  abbrev s : Signature
  s = signature_of l.declared

  abbrev Q : ℕ → Type 0
  Q = IsAvailable l

  abbrev n : ℕ
  n = length g.vars

  abbrev h : List Fm
  h = map hyp_formula g.hyps

  abbrev c : Fm
  c = g.target

  abbrev cs : List Carried
  cs = carried v g

  abbrev hs : List Fm
  hs = formulas_of cs

  stand : Stand s l.theorems Q n h cs
  stand = stands s l.theorems Q v n g.hyps fit.0

  formulas-fit : (xs : List Carried) → Stand s l.theorems Q n h xs → AllFit s n (formulas_of xs)
  formulas-fit [] st = tt
  formulas-fit (x ∷ xs) st = (st.1, formulas-fit xs st.2)

  fits-imps : (a : List Fm) (b : Fm) → AllFit s n a → fits s n 0 b ≡ true → fits s n 0 (imps a b) ≡ true
  fits-imps [] b f k = k
  fits-imps (a ∷ as') b f k = and_from _ _ f.0 (fits-imps as' b f.1 k)

  held : sequent (without_held v g) ≡ sequent g
  held = sequent-without_held v g

  -- `revert x` of a variable
  pub good-revert_var : (x : Name) (new : List Goal) → reverted_var g x v ∷ [] ≡ new → Good l (sequent g) (map sequent new) (gives_all cs ++ change (all x (closed_over_formula v (before cs c))) (alle (closed_over_formula v (before cs c)) (free v) (hyp (length h))) ∷ [])
  good-revert_var x new e =
      let w = before cs c in
      let a = closed_over_formula v w in
      let fa = fits-closed s n n v w (λ i lt ne. lt) (fits-imps hs c (formulas-fit cs stand) fit.1) in
      one_goal l ok g fit (reverted_var g x v) new (gives_all cs ++ change (all x a) (alle a (free v) (hyp (length h))) ∷ []) (at n h (all x a)) (omega arith) e (ap (aimed_at (all x a)) (sym held))
      (λ rest. turn-revert s l.theorems Q n h rest v x cs c there stand fit.1) (fit.0, fa)

  -- the goal at zero
  base-is : at n (h ++ map (put_for v nought) hs) (put_for v nought c) ≡ sequent (base_goal g v)
  base-is = ap (aimed_at (put_for v nought c)) (sym (sequent-with_copies v nought cs (without_held v g) ∙ ap (and_hyps (map (put_for v nought) hs)) held))

  -- the goal at a successor, behind a goal that has one variable and these hypotheses more
  step-is : (rest : Goal) (more : List Fm) → at (n + 1) more c ≡ sequent rest →
      at (n + 1) (more ++ map (put_for v (succ (free n))) hs) (put_for v (succ (free n)) c) ≡ sequent (step_goal g v rest)
  step-is rest more is =
      let t = succ (free n) in
      ap (aimed_at (put_for v t c)) (ap (and_hyps (map (put_for v t) hs)) is ∙ sym (sequent-with_copies v t cs rest))

  var-is : (x : Name) → at (n + 1) h c ≡ sequent (with_var x (without_held v g))
  var-is x = sym (sequent-with_var x (without_held v g) ∙ ap and_var held)

  -- `induction n with d hd`
  pub good-induction_var : (ws : List Word) (new : List Goal) → induction_of_var l g v ws ≡ Ok new → Good l (sequent g) (map sequent new) (gives_all cs ++ induct (closed_over_formula v (before cs c)) (free v) (length cs) ∷ [])
  good-induction_var ws new e =
      let w = before cs c in
      let rest-of = λ (x y : Name). with_hyp y (induction_hyp g v) (with_var x (without_held v g)) in
      let i = then-ok (at_most 2 ws) (λ vs. and_then (new_variable l g v vs) (λ x. and_then (new_hypothesis l g v x vs) (λ y. Ok (base_goal g v ∷ step_goal g v (rest-of x y) ∷ [])))) new e in
      let j = then-ok (new_variable l g v i.0) (λ x. and_then (new_hypothesis l g v x i.0) (λ y. Ok (base_goal g v ∷ step_goal g v (rest-of x y) ∷ []))) new i.2 in
      let k = then-ok (new_hypothesis l g v j.0 i.0) (λ y. Ok (base_goal g v ∷ step_goal g v (rest-of j.0 y) ∷ [])) new j.2 in
      let d = put_for v (free n) w in
      let f = fits-induction s n h v hs c fit.0 (formulas-fit cs stand) fit.1 in
      let is : at (n + 1) (h ++ d ∷ []) c ≡ sequent (rest-of j.0 k.0) = ap (and_hyp d) (var-is j.0) ∙ sym (sequent-with_hyp k.0 d (with_var j.0 (without_held v g))) in
      two_goals l ok g fit (base_goal g v) (step_goal g v (rest-of j.0 k.0)) new (gives_all cs ++ induct (closed_over_formula v w) (free v) (length cs) ∷ [])
      (at n (h ++ map (put_for v nought) hs) (put_for v nought c)) (at (n + 1) ((h ++ d ∷ []) ++ map (put_for v (succ (free n))) hs) (put_for v (succ (free n)) c)) (omega arith) (omega arith) (cc) base-is (step-is (rest-of j.0 k.0) (h ++ d ∷ []) is)
      (λ rest. turn-induction s l.theorems Q n h rest v cs c (omega arith) there stand fit.1) f.0 f.1

  -- `cases n with d`
  pub good-cases_var : (ws : List Word) (new : List Goal) → cases_of_var l g v ws ≡ Ok new → Good l (sequent g) (map sequent new) (gives_all cs ++ parts n (length h) v (before cs c) (length cs) ∷ [])
  good-cases_var ws new e =
      let w = before cs c in
      let t = succ (free n) in
      let i = then-ok (at_most 1 ws) (λ vs. and_then (new_variable l g v vs) (λ x. Ok (base_goal g v ∷ step_goal g v (with_var x (without_held v g)) ∷ []))) new e in
      let j = then-ok (new_variable l g v i.0) (λ x. Ok (base_goal g v ∷ step_goal g v (with_var x (without_held v g)) ∷ [])) new i.2 in
      let new-fits : fits_term s.functions (n + 1) 0 (free n) ≡ true = lt-ltb n (n + 1) (omega arith) in
      let ff = formulas-fit cs stand in
      let f = fits-induction s n h v hs c fit.0 ff fit.1 in
      two_goals l ok g fit (base_goal g v) (step_goal g v (with_var j.0 (without_held v g))) new (gives_all cs ++ parts n (length h) v w (length cs) ∷ [])
      (at n (h ++ map (put_for v nought) hs) (put_for v nought c)) (at (n + 1) (h ++ map (put_for v t) hs) (put_for v t c)) (omega arith) (omega arith) (cc) base-is (step-is (with_var j.0 (without_held v g)) h (var-is j.0))
      (λ rest. turn-parts s l.theorems Q n h rest v cs c room there stand fit.1) f.0
      (all_fit-append s (n + 1) h _ (all_fit-more s n (n + 1) h (omega arith) fit.0) (all_fit-put s n (n + 1) v t hs (omega arith) new-fits ff), fits-put s n (n + 1) v t c (omega arith) new-fits fit.1)

  -- ---- the same without saying the frames

  pub works-revert_var : (x : Name) → Works l g (Ok (reverted_var g x v ∷ []))
  works-revert_var x new e = (_, good-revert_var x new (cc))

  pub works-induction_var : (ws : List Word) → Works l g (induction_of_var l g v ws)
  works-induction_var ws new e = (_, good-induction_var ws new e)

  pub works-cases_var : (ws : List Word) → Works l g (cases_of_var l g v ws)
  works-cases_var ws new e = (_, good-cases_var ws new e)
