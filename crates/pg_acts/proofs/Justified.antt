-- The frames of each act justify it.
use Rattle.std.proofs.Common.{◌≡◌, ℕ, List, [], ◌∷◌, ◌++◌, ◌&&◌, length, map, true, false, Some, arith, ap, sym, subst}
use Rattle.std.specs.Prelude.{Ok, slice_get}
use Rattle.std.specs.Str.{bytes_eq}
use Rattle.std.proofs.lemmas.List.{length-map}
use Rattle.std.proofs.lemmas.List.Quantifiers.{position-Some}
use Rattle.pg_base.specs.Tokens.{Word}
use Rattle.pg_logic.specs.Tree.{Tm, Fm, falsum, imp}
use Rattle.pg_logic.specs.Signature.{fits}
use Rattle.pg_logic.specs.Declarations.{signature_of}
use Rattle.pg_logic.specs.Kernel.{lem, reflexive}
use Rattle.pg_script.specs.Data.{Part}
use Rattle.pg_moves.specs.Goals.{Var, Goal, live_names, variable_named, aimed, with_hyp}
use Rattle.pg_moves.specs.Causes.{WrongArgument}
use Rattle.pg_moves.specs.Lookup.{Lookup, given_name}
use Rattle.pg_moves.specs.Closing.{head_unfolded, goal_form, reflexivity, intro_of, left_of, right_of, both_of, witness_of, term_there, formula_there}
use Rattle.pg_moves.specs.Expressions.{read_term, read_formula, begins}
use Rattle.pg_moves.specs.Assuming.{Found, hypothesis, changed_to, swapped, symmetric, reverted_hyp, reverted_var, cases_of_hyp}
use Rattle.pg_moves.specs.Proofs.{hyp_formula, sequent}
use Rattle.pg_moves.specs.Frames.{Frame, whole, under_orl, under_orr, under_fale, under_exi, pair, cut, give, lemma, split}
use Rattle.pg_moves.specs.Framing.{intro_frame, symm_frames, swapped_proof, cases_frames}
use Rattle.pg_moves.specs.Laws.{Justifies}
use Rattle.pg_moves.proofs.ByRecursion as by
use Rattle.pg_moves.proofs.Given.{Sound}
use Rattle.pg_moves.proofs.Good.{Good, good-rfl, good-exfalso, good-intro, good-left, good-right, good-both, good-witness}
use Rattle.pg_moves.proofs.Hypothetical.{found-there, good-symm, good-symm_at, good-assert, good-by_cases, good-revert_hyp}
use Rattle.pg_moves.proofs.Cased.{good-cases_hyp}
use Rattle.pg_moves.proofs.Inducted.{good-revert_var}
use Rattle.pg_reduction.proofs.Does.{J, ok, fit, by-good}
use Rattle.pg_moves.proofs.Sequents.{then-ok, wanted-ok}
use Rattle.pg_reduction.specs.Doing.{IsReady}
use Rattle.pg_acts.specs.Named.{asserted_as, split_as, swapped_at, swapping}
use Rattle.pg_acts.specs.Opening.{opening, opened_proof}

module _ (l : Lookup) (g : Goal) (ready : IsReady l g) where
  pub j-rfl : (new : List Goal) → reflexivity g.target ≡ Ok new → J l g ready new (whole reflexive ∷ [])
  j-rfl new e = by-good l g ready new _ (good-rfl l (ok l g ready) g (fit l g ready) new e)

  pub j-exfalso : (new : List Goal) → aimed falsum g ∷ [] ≡ new → J l g ready new (under_fale ∷ [])
  j-exfalso new e = by-good l g ready new _ (good-exfalso l (ok l g ready) g (fit l g ready) new e)

  pub j-intro : (x : Word) (new : List Goal) → intro_of l g x (goal_form l g) ≡ Ok new → J l g ready new (opening l g ++ intro_frame (goal_form l g) ∷ [])
  j-intro x new e = by-good l g ready new _ (good-intro l (ok l g ready) g (fit l g ready) (omega (arith, ready.vars)) x new e)

  pub j-left : (new : List Goal) → left_of g (goal_form l g) ≡ Ok new → J l g ready new (opening l g ++ under_orl ∷ [])
  j-left new e = by-good l g ready new _ (good-left l (ok l g ready) g (fit l g ready) new e)

  pub j-right : (new : List Goal) → right_of g (goal_form l g) ≡ Ok new → J l g ready new (opening l g ++ under_orr ∷ [])
  j-right new e = by-good l g ready new _ (good-right l (ok l g ready) g (fit l g ready) new e)

  pub j-both : (new : List Goal) → both_of g (goal_form l g) ≡ Ok new → J l g ready new (opening l g ++ pair ∷ [])
  j-both new e = by-good l g ready new _ (good-both l (ok l g ready) g (fit l g ready) new e)

  pub j-witness : (p : Part) (t : Tm) → term_there l g p ≡ Ok t → (new : List Goal) → witness_of g t (goal_form l g) ≡ Ok new → J l g ready new (opening l g ++ under_exi t ∷ [])
  j-witness p t is new e = by-good l g ready new _ (good-witness l (ok l g ready) g (fit l g ready) t ((ok l g ready).terms g p t (wanted-ok (read_term l g p) (WrongArgument (begins p)) t is)) new e)

  -- so many hypotheses stand in the sequent
  abbrev as-many : length (map hyp_formula g.hyps) ≡ length g.hyps
  as-many = length-map g.hyps hyp_formula

  pub j-symm : (new : List Goal) → symmetric g ≡ Ok new → J l g ready new (symm_frames (length g.hyps) g.target)
  j-symm new e = subst (λ k. J l g ready new (symm_frames k g.target)) as-many (by-good l g ready new _ (good-symm l (ok l g ready) g (fit l g ready) new e))

  formula-fits : (p : Part) (a : Fm) → formula_there l g p ≡ Ok a → fits (signature_of l.declared) (length g.vars) 0 a ≡ true
  formula-fits p a is = (ok l g ready).formulas g p a (wanted-ok (read_formula l g p) (WrongArgument (begins p)) a is)

  pub j-assert : (p : Part) (a : Fm) → formula_there l g p ≡ Ok a → (x : Word) (new : List Goal) → asserted_as l g x a ≡ Ok new → J l g ready new (lemma a (length g.hyps) ∷ [])
  j-assert p a is x new e =
      let z = then-ok (given_name l (live_names g) x) (λ n. Ok (aimed a g ∷ with_hyp n a g ∷ [])) new e in
      subst (λ k. J l g ready new (lemma a k ∷ [])) as-many (by-good l g ready new _ (good-assert l (ok l g ready) g (fit l g ready) a (formula-fits p a is) z.0 new (cc)))

  pub j-by_cases : (p : Part) (a : Fm) → formula_there l g p ≡ Ok a → (x : Word) (new : List Goal) → split_as l g x a ≡ Ok new → J l g ready new (split a (imp a falsum) lem ∷ [])
  j-by_cases p a is x new e =
      let z = then-ok (given_name l (live_names g) x) (λ n. Ok (with_hyp n a g ∷ with_hyp n (imp a falsum) g ∷ [])) new e in
      by-good l g ready new _ (good-by_cases l (ok l g ready) g (fit l g ready) a (formula-fits p a is) z.0 new (cc))

  -- ---- acts on a hypothesis that is found

  there : (x : Word) (f : Found) → hypothesis g x.text ≡ Some f → slice_get (map hyp_formula g.hyps) f.number ≡ Some f.hyp.formula
  there x f is = found-there g x.text f is

  pub j-symm_at : (x : Word) (f : Found) → hypothesis g x.text ≡ Some f → (new : List Goal) → swapped_at g f ≡ Ok new → J l g ready new (swapping (length g.hyps) f (swapped f.hyp.formula))
  j-symm_at x f is new e =
      let y = then-ok (swapped f.hyp.formula) (λ a. Ok (changed_to g f a ∷ [])) new e in
      let w = by-good l g ready new _ (good-symm_at l (ok l g ready) g (fit l g ready) f (there x f is) y.0 y.1 new (cc)) in
      subst (λ fs. J l g ready new fs) (ap (swapping (length g.hyps) f) (sym y.1)) (subst (λ k. J l g ready new (cut y.0 (swapped_proof f.number k f.hyp.formula) ∷ [])) as-many w)

  pub j-cases_hyp : (x : Word) (f : Found) → hypothesis g x.text ≡ Some f → (ws : List Word) (new : List Goal) → cases_of_hyp l g f ws ≡ Ok new → J l g ready new (cases_frames (opened_proof l f) (head_unfolded l f.hyp.formula))
  j-cases_hyp x f is ws new e = by-good l g ready new _ (good-cases_hyp l (ok l g ready) g (fit l g ready) (omega (arith, ready.vars)) f (there x f is) ws new e)
