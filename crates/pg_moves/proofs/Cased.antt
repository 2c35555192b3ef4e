-- `cases` of a hypothesis: proofs of the new goals make one of the old goal, and the new goals fit.
use Rattle.std.proofs.Common.{◌≡◌, ℕ, ◌+◌, ◌<◌, List, [], ◌∷◌, ◌++◌, length, map, true, Some, refl, arith, ap, sym, ◌∙◌, subst}
use Rattle.std.specs.Prelude.{Ok, slice_get, drop}
use Rattle.std.proofs.lemmas.Bool.{and_parts}
use Rattle.pg_base.specs.Tokens.{Word}
use Rattle.pg_logic.specs.Tree.{free, Fm, falsum, eq, pred, and, or, imp, all, ex, opened_formula}
use Rattle.pg_logic.specs.Signature.{Signature, fits}
use Rattle.pg_logic.specs.Declarations.{Name, signature_of}
use Rattle.pg_logic.specs.Kernel.{Pf, hyp, fale, andl, andr}
use Rattle.pg_moves.specs.Goals.{Goal, live_names, with_var, with_hyp, without_hyp}
use Rattle.pg_moves.specs.Causes.{and_then}
use Rattle.pg_moves.specs.Lookup.{Lookup, new_name, IsAvailable}
use Rattle.pg_moves.specs.Closing.{head_unfolded}
use Rattle.pg_moves.specs.Assuming.{Found, at_most, both_parts, either_part, some_part, parts_of, cases_of_hyp}
use Rattle.pg_moves.specs.Proofs.{Proves, hyp_formula, sequent}
use Rattle.pg_moves.proofs.ByRecursion.{Fits}
use Rattle.pg_moves.specs.Framing.{cases_frames}
use Rattle.pg_moves.specs.Frames.{Frame, cut, split, open_up, predes, way}
use Rattle.pg_moves.proofs.Rules.{Gives, gives as from_gives, by_hyp, by_fale, at_more}
use Rattle.pg_moves.proofs.Turning.{at, turn-split, turn-open}
use Rattle.pg_moves.proofs.Moved.{by_unfolded, turn-both}
use Rattle.pg_moves.proofs.Sequents.{then-ok, and_hyp, and_var, sequent-with_hyp, sequent-with_var, sequent-without_hyp}
use Rattle.pg_moves.proofs.Given.{Sound, fit_at}
use Rattle.pg_moves.proofs.Good.{Good, Works, fit_push, fit_more, opens_newest, fits-unfolded, one_goal, two_goals, shut}

module _ (l : Lookup) (ok : Sound l) (g : Goal) (fit : Fits (signature_of l.declared) (sequent g)) (room : length g.vars < 4294967295) where
  abbrev s : Signature
  s = signature_of l.declared

  abbrev Q : ℕ → Type 0
  Q = IsAvailable l

  abbrev n : ℕ
  n = length g.vars

  abbrev h : List Fm
  h = map hyp_formula g.hyps

  abbrev G : List Goal → List Frame → Type 0
  G new fs = Good l (sequent g) (map sequent new) fs

  -- the cases of what d gives, where x is the goal without the hypothesis
  module _ (x : Goal) (is : sequent g ≡ sequent x) (y : Name) (d : Pf) where
    hyp-pushed : (z : Name) (a : Fm) → at n (h ++ a ∷ []) g.target ≡ sequent (with_hyp z a x)
    hyp-pushed z a = ap (and_hyp a) is ∙ sym (sequent-with_hyp z a x)

    good-and : (a b : Fm) (ws : List Word) (new : List Goal) → fits s n 0 a ≡ true → fits s n 0 b ≡ true → Gives s l.theorems Q n h (and a b) d → Gives s l.theorems Q n (h ++ a ∷ []) (and a b) d →
        both_parts l x y ws a b ≡ Ok new → G new (cases_frames d (and a b))
    good-and a b ws new fa fb p p' e =
        let u = then-ok (new_name l (live_names x) ws y) (λ z. and_then (new_name l (live_names (with_hyp z a x)) (drop 1 ws) y) (λ w. Ok (with_hyp w b (with_hyp z a x) ∷ []))) new e in
        let v = then-ok (new_name l (live_names (with_hyp u.0 a x)) (drop 1 ws) y) (λ w. Ok (with_hyp w b (with_hyp u.0 a x) ∷ [])) new u.2 in
        one_goal l ok g fit (with_hyp v.0 b (with_hyp u.0 a x)) new (cut a (andl b d) ∷ cut b (andr a d) ∷ []) (at n ((h ++ a ∷ []) ++ b ∷ []) g.target) (omega arith) (cc)
        (ap (and_hyp b) (hyp-pushed u.0 a) ∙ sym (sequent-with_hyp v.0 b (with_hyp u.0 a x)))
        (λ rest. turn-both s l.theorems Q n h rest a b g.target d fa fb p p')
        (fit_push s n (h ++ a ∷ []) b (fit_push s n h a fit.0 fa) fb, fit.1)

    good-or : (a b : Fm) (ws : List Word) (new : List Goal) → fits s n 0 a ≡ true → fits s n 0 b ≡ true → Proves s l.theorems Q n h (or a b) d → either_part l x y ws a b ≡ Ok new → G new (cases_frames d (or a b))
    good-or a b ws new fa fb p e =
        let u = then-ok (new_name l (live_names x) ws y) (λ z. and_then (new_name l (live_names x) (drop 1 ws) y) (λ w. Ok (with_hyp z a x ∷ with_hyp w b x ∷ []))) new e in
        let v = then-ok (new_name l (live_names x) (drop 1 ws) y) (λ w. Ok (with_hyp u.0 a x ∷ with_hyp w b x ∷ [])) new u.2 in
        two_goals l ok g fit (with_hyp u.0 a x) (with_hyp v.0 b x) new (split a b d ∷ []) (at n (h ++ a ∷ []) g.target) (at n (h ++ b ∷ []) g.target) (omega arith) (omega arith) (cc) (hyp-pushed u.0 a) (hyp-pushed v.0 b)
        (λ rest. turn-split s l.theorems Q n h rest a b g.target d fa fb p) (fit_push s n h a fit.0 fa, fit.1) (fit_push s n h b fit.0 fb, fit.1)

    good-ex : (z : Name) (a : Fm) (ws : List Word) (new : List Goal) → length x.vars ≡ n → fits s n 1 a ≡ true → Gives s l.theorems Q n h (ex z a) d → some_part l x y ws z a ≡ Ok new → G new (cases_frames d (ex z a))
    good-ex z a ws new same fa p e =
        let body = opened_formula (free (length x.vars)) a in
        let u = then-ok (new_name l (live_names x) ws z) (λ v. and_then (new_name l (live_names (with_var v x)) (drop 1 ws) y) (λ w. Ok (with_hyp w body (with_var v x) ∷ []))) new e in
        let v = then-ok (new_name l (live_names (with_var u.0 x)) (drop 1 ws) y) (λ w. Ok (with_hyp w body (with_var u.0 x) ∷ [])) new u.2 in
        let q : at (n + 1) (h ++ opened_formula (free n) a ∷ []) g.target ≡ sequent (with_hyp v.0 body (with_var u.0 x)) =
        ap (λ m. at (n + 1) (h ++ opened_formula (free m) a ∷ []) g.target) (sym same) ∙ ap (λ r. and_hyp body (and_var r)) is ∙ ap (and_hyp body) (sym (sequent-with_var u.0 x)) ∙ sym (sequent-with_hyp v.0 body (with_var u.0 x)) in
        let more : fits s (n + 1) 0 g.target ≡ true = (fit_more s n (g.target ∷ []) (fit.1, tt)).0 in
        one_goal l ok g fit (with_hyp v.0 body (with_var u.0 x)) new (open_up a d ∷ []) (at (n + 1) (h ++ opened_formula (free n) a ∷ []) g.target) (omega arith) (cc) q
        (λ rest. turn-open s l.theorems Q n h rest z a g.target d room fa p)
        (fit_push s (n + 1) h (opened_formula (free n) a) (fit_more s n h fit.0) (opens_newest s n a fa), more)

  module _ (f : Found) (there : slice_get h f.number ≡ Some f.hyp.formula) where
    abbrev x : Goal
    x = without_hyp f.number g

    abbrev long : ℕ
    long = length (signature_of l.declared).predicates

    abbrev d : Pf
    d = predes (way long s f.hyp.formula) (hyp f.number)

    gives-in : (h' : List Fm) → slice_get h' f.number ≡ Some f.hyp.formula → (c : Fm) → head_unfolded l f.hyp.formula ≡ c → Gives s l.theorems Q n h' c d
    gives-in h' there' c is =
        subst (λ c. Gives s l.theorems Q n h' c d) is
        (by_unfolded s l.theorems Q ok.declared n h' long f.hyp.formula (hyp f.number) (fit_at s n h f.number f.hyp.formula fit.0 there) (by_hyp s l.theorems Q n h' f.number f.hyp.formula there'))

    form-fits : (c : Fm) → head_unfolded l f.hyp.formula ≡ c → fits s n 0 c ≡ true
    form-fits c is = subst (λ c. fits s n 0 c ≡ true) is (fits-unfolded s ok.declared n long f.hyp.formula (fit_at s n h f.number f.hyp.formula fit.0 there))

    same : sequent g ≡ sequent x
    same = sym (sequent-without_hyp f.number g)

    good-form : (ws : List Word) (new : List Goal) (c : Fm) → head_unfolded l f.hyp.formula ≡ c → parts_of l x f.hyp.name ws c ≡ Ok new → G new (cases_frames d c)
    good-form ws new (and a b) is e =
        let v = then-ok (at_most 2 ws) (λ vs. both_parts l x f.hyp.name vs a b) new e in
        let q = and_parts _ _ (form-fits (and a b) is) in
        good-and x same f.hyp.name d a b v.0 new q.0 q.1 (gives-in h there (and a b) is) (gives-in (h ++ a ∷ []) (at_more h (a ∷ []) f.number f.hyp.formula there) (and a b) is) v.2
    good-form ws new (or a b) is e =
        let v = then-ok (at_most 2 ws) (λ vs. either_part l x f.hyp.name vs a b) new e in
        let q = and_parts _ _ (form-fits (or a b) is) in
        good-or x same f.hyp.name d a b v.0 new q.0 q.1 (from_gives s l.theorems Q n h (or a b) d (gives-in h there (or a b) is)) v.2
    good-form ws new (ex z a) is e =
        let v = then-ok (at_most 2 ws) (λ vs. some_part l x f.hyp.name vs z a) new e in
        good-ex x same f.hyp.name d z a v.0 new refl (form-fits (ex z a) is) (gives-in h there (ex z a) is) v.2
    good-form ws new falsum is e =
        let v = then-ok (at_most 0 ws) (λ vs. Ok []) new e in
        shut l ok g fit new (fale d) (cc) (by_fale s l.theorems Q n h g.target d (from_gives s l.theorems Q n h falsum d (gives-in h there falsum is)))
    good-form ws new (eq t u) is e = absurd (cc)
    good-form ws new (pred q ts) is e = absurd (cc)
    good-form ws new (imp a b) is e = absurd (cc)
    good-form ws new (all z a) is e = absurd (cc)

    -- `cases h with ..`
    pub good-cases_hyp : (ws : List Word) (new : List Goal) → cases_of_hyp l g f ws ≡ Ok new → G new (cases_frames d (head_unfolded l f.hyp.formula))
    good-cases_hyp ws new e = good-form ws new (head_unfolded l f.hyp.formula) refl e

    pub works-cases_hyp : (ws : List Word) → Works l g (cases_of_hyp l g f ws)
    works-cases_hyp ws new e = (cases_frames d (head_unfolded l f.hyp.formula), good-cases_hyp ws new e)
