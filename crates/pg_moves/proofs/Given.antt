-- What an expression gives has a proof, and fits.
use Rattle.std.proofs.Common.{◌≡◌, ℕ, zero, suc, List, [], ◌∷◌, length, map, Bool, true, false, Option, Some, None, refl, arith, ◌∙◌, subst}
use Rattle.std.specs.Prelude.{Ok, Err, if◌then◌else◌, slice_get, nat_lt}
use Rattle.std.proofs.lemmas.Bool.{and_parts}
use Rattle.pg_base.specs.Tokens.{Word}
use Rattle.pg_logic.specs.Tree.{Tm, Fm, falsum, eq, pred, and, or, imp, all, ex, same_formula, opened_formula, nodes_of}
use Rattle.pg_logic.specs.Signature.{Signature, IsDeclared, fits, fits_term}
use Rattle.pg_logic.specs.Declarations.{signature_of}
use Rattle.pg_logic.specs.Kernel.{Pf, hyp, thm, alle, impe}
use Rattle.pg_logic.proofs.Fitting.{fits-le, fits-opened}
use Rattle.pg_script.specs.Data.{Part, Expression}
use Rattle.pg_moves.specs.Goals.{Goal, Hyp, hypothesis_named}
use Rattle.pg_moves.specs.Causes.{and_then, wanted}
use Rattle.pg_moves.specs.Lookup.{Lookup, IsAvailable, theorem_named}
use Rattle.pg_moves.specs.Expressions.{NoSuchName, Locked, WrongArgument, TooLarge, Given, small, hypothesis_given, theorem_name_given, name_given, named_given, same_given, at_argument, at_arguments, gives_within, gives, token_count, read_term, read_formula, read_expression, begins}
use Rattle.pg_moves.specs.Proofs.{hyp_formula, sequent}
use Rattle.pg_moves.proofs.ByRecursion.{AllFit, Fits}
use Rattle.pg_moves.proofs.Rules.{Gives, by_hyp, by_thm, by_alle}
use Rattle.pg_moves.proofs.More.{gives_all_of}
use Rattle.pg_moves.proofs.Sequents.{then-ok, wanted-ok, if-ok, hyp-formula}

-- what moves look up fits, and what is read does
pub record Sound (l : Lookup) : Type 0 where
  pub declared : IsDeclared (signature_of l.declared)
  pub theorems : (k : ℕ) (a : Fm) → slice_get l.theorems k ≡ Some a → fits (signature_of l.declared) 0 0 a ≡ true
  pub terms : (g : Goal) (p : Part) (t : Tm) → read_term l g p ≡ Some t → fits_term (signature_of l.declared).functions (length g.vars) 0 t ≡ true
  pub formulas : (g : Goal) (p : Part) (a : Fm) → read_formula l g p ≡ Some a → fits (signature_of l.declared) (length g.vars) 0 a ≡ true

-- the formula fits, and the kernel accepts the proof of it and of each that is the same
pub record Has (l : Lookup) (g : Goal) (a : Fm) : Type 0 where
  pub fitting : fits (signature_of l.declared) (length g.vars) 0 a ≡ true
  pub proof : Pf
  pub proves : Gives (signature_of l.declared) l.theorems (IsAvailable l) (length g.vars) (map hyp_formula g.hyps) a proof

pub fit_at : (s : Signature) (n : ℕ) (h : List Fm) (k : ℕ) (a : Fm) → AllFit s n h → slice_get h k ≡ Some a → fits s n 0 a ≡ true
fit_at s n [] k a f e = absurd (cc)
fit_at s n (b ∷ h) zero a f e = let is : b ≡ a = cc in subst (λ a. fits s n 0 a ≡ true) is f.0
fit_at s n (b ∷ h) (suc k) a f e = fit_at s n h k a f.1 e

small-ok : (a r : Fm) → small a ≡ Ok r → a ≡ r
small-ok a r e = go (nat_lt 4096 (nodes_of a)) e
  where
    go : (b : Bool) → (if b then Err (TooLarge (nodes_of a)) else Ok a) ≡ Ok r → a ≡ r
    go true e = absurd (cc)
    go false e = cc

module _ (l : Lookup) (ok : Sound l) (g : Goal) (fit : Fits (signature_of l.declared) (sequent g)) where
  abbrev s : Signature
  s = signature_of l.declared

  abbrev H : Fm → Type 0
  H = Has l g

  moved : (a r : Fm) → a ≡ r → H a → H r
  moved a r e h = subst H e h

  by-hypothesis : (at i : ℕ) (o : Option Hyp) (a : Fm) → slice_get g.hyps i ≡ o → hypothesis_given at o ≡ Ok a → H a
  by-hypothesis at i None a is e = absurd (cc)
  by-hypothesis at i (Some h) a is e =
      let same : h.formula ≡ a = cc in
      let there = hyp-formula i g.hyps h is in
      moved h.formula a same (record { fitting = fit_at s (length g.vars) (map hyp_formula g.hyps) i h.formula fit.0 there; proof = hyp i; proves = by_hyp s l.theorems (IsAvailable l) (length g.vars) (map hyp_formula g.hyps) i h.formula there })

  by-theorem : (at k : ℕ) (b : Bool) (a : Fm) → l.available.theorem k ≡ b → (if b then wanted (slice_get l.theorems k) (NoSuchName at) else Err (Locked at k)) ≡ Ok a → H a
  by-theorem at k true a is e =
      let there = wanted-ok (slice_get l.theorems k) (NoSuchName at) a e in
      record {
        fitting = fits-le s 0 (length g.vars) 0 0 a (omega arith) (omega arith) (ok.theorems k a there);
        proof = thm k;
        proves = by_thm s l.theorems (IsAvailable l) (length g.vars) (map hyp_formula g.hyps) k a there is;
      }
  by-theorem at k false a is e = absurd (cc)

  by-theorem_name : (at : ℕ) (o : Option ℕ) (a : Fm) → theorem_name_given l at o ≡ Ok a → H a
  by-theorem_name at None a e = absurd (cc)
  by-theorem_name at (Some k) a e = by-theorem at k (l.available.theorem k) a refl e

  by-name : (w : Word) (o : Option ℕ) (a : Fm) → name_given l g w o ≡ Ok a → H a
  by-name w None a e = by-theorem_name w.at (theorem_named l w.text) a e
  by-name w (Some i) a e = by-hypothesis w.at i (slice_get g.hyps i) a refl e

  -- at one argument, where expressions within it have proofs
  module _ (inner : Expression → Given) (has : (e : Expression) (a : Fm) → inner e ≡ Ok a → H a) where
    by-argument : (a r : Fm) (p : Part) → H a → at_argument l g inner a p ≡ Ok r → H r
    by-argument (all x a) r p h e =
        let y = then-ok (wanted (read_term l g p) (WrongArgument (begins p))) (λ t. small (opened_formula t a)) r e in
        let ft = ok.terms g p y.0 (wanted-ok (read_term l g p) (WrongArgument (begins p)) y.0 y.1) in
        moved (opened_formula y.0 a) r (small-ok (opened_formula y.0 a) r y.2) (record {
          fitting = fits-opened s (length g.vars) y.0 a ft h.fitting;
          proof = alle a y.0 h.proof;
          proves = by_alle s l.theorems (IsAvailable l) (length g.vars) (map hyp_formula g.hyps) x a y.0 h.proof h.fitting ft h.proves;
        })
    by-argument (imp a b) r p h e =
        let x = then-ok (wanted (read_expression p) (WrongArgument (begins p))) (λ e. and_then (inner e) (λ c. and_then (same_given (begins p) a b c) small)) r e in
        let y = then-ok (inner x.0) (λ c. and_then (same_given (begins p) a b c) small) r x.2 in
        let z = then-ok (same_given (begins p) a b y.0) small r y.2 in
        let q = if-ok (same_formula y.0 a) b z.0 (WrongArgument (begins p)) z.1 in
        let k = has x.0 y.0 y.1 in
        let f = and_parts _ _ h.fitting in
        moved b r (q.1 ∙ small-ok z.0 r z.2) (record {
          fitting = f.1;
          proof = impe a h.proof k.proof;
          proves = gives_all_of s l.theorems (IsAvailable l) (length g.vars) (map hyp_formula g.hyps) a b h.proof k.proof f.0 h.proves (k.proves a q.0);
        })
    by-argument falsum r p h e = absurd (cc)
    by-argument (eq t u) r p h e = absurd (cc)
    by-argument (pred q ts) r p h e = absurd (cc)
    by-argument (and a b) r p h e = absurd (cc)
    by-argument (or a b) r p h e = absurd (cc)
    by-argument (ex x a) r p h e = absurd (cc)

    by-arguments : (ps : List Part) (a r : Fm) → H a → at_arguments l g inner ps a ≡ Ok r → H r
    by-arguments [] a r h e = let is : a ≡ r = cc in moved a r is h
    by-arguments (p ∷ ps) a r h e =
        let x = then-ok (at_argument l g inner a p) (at_arguments l g inner ps) r e in
        by-arguments ps x.0 r (by-argument a x.0 p h x.1) x.2

  by-within : (deep : ℕ) (e : Expression) (a : Fm) → gives_within deep l g e ≡ Ok a → H a
  by-within zero e a q = absurd (cc)
  by-within (suc deep) e a q =
      let x = then-ok (named_given l g e.name) (λ a. and_then (small a) (at_arguments l g (gives_within deep l g) e.args)) a q in
      let y = then-ok (small x.0) (at_arguments l g (gives_within deep l g) e.args) a x.2 in
      let h = by-name e.name (hypothesis_named g e.name.text) x.0 x.1 in
      by-arguments (gives_within deep l g) (by-within deep) e.args y.0 a (moved x.0 y.0 (small-ok x.0 y.0 y.1) h) y.2

  -- what an expression gives
  pub given-has : (e : Expression) (a : Fm) → gives l g e ≡ Ok a → Has l g a
  unfolding gives
  given-has e a q = by-within (suc (token_count e.args)) e a q
