-- From the goals and the frames that are made, or the cause, to what the act does.
use Rattle.std.proofs.Common.{◌≡◌, ℕ, List, [], ◌∷◌, ◌++◌, length, map, Some, None, refl, ap, sym, ◌∙◌, subst}
use Rattle.std.specs.Prelude.{Result, Ok, Err}
use Rattle.pg_base.specs.Tokens.{Word}
use Rattle.pg_logic.specs.Tree.{Tm, Fm, falsum, imp}
use Rattle.pg_logic.specs.Kernel.{lem, reflexive}
use Rattle.pg_script.specs.Data.{Part}
use Rattle.pg_moves.specs.Goals.{Goal, variable_named, aimed}
use Rattle.pg_moves.specs.Causes.{Cause, Tried, NoSuchName, and_then, wanted}
use Rattle.pg_moves.specs.Lookup.{Lookup}
use Rattle.pg_moves.specs.Acts.{Act, Rfl, Intro, Left, Right, Constructor, Witness, Symm, SymmAt, Exfalso, Assert, ByCases, Cases, Revert}
use Rattle.pg_moves.specs.Assuming.{Found, hypothesis, swapped, symmetric, reverted_hyp, reverted_var, reverted_as, cases_of_hyp}
use Rattle.pg_moves.specs.Inducting.{cases_as}
use Rattle.pg_moves.specs.Closing.{head_unfolded, goal_form, reflexivity, intro_of, left_of, right_of, both_of, witness_of, term_there, formula_there}
use Rattle.pg_moves.specs.Frames.{Frame, whole, under_orl, under_orr, under_fale, under_exi, pair, give, lemma, split}
use Rattle.pg_moves.specs.Framing.{intro_frame, symm_frames, cases_frames}
use Rattle.pg_moves.specs.Laws.{Justifies}
use Rattle.pg_moves.specs.Proofs.{sequent}
use Rattle.pg_moves.specs.Steps.{new_goals}
use Rattle.pg_goal.specs.View.{goal_of}
use Rattle.pg_reduction.specs.declared.cause.ActFault.{ActFault}
use Rattle.pg_reduction.specs.declared.cause.ActFault.TheVariants.{Stop, OutOfMemory}
use Rattle.pg_reduction.specs.declared.reduction.Reduction.{Reduction}
use Rattle.pg_reduction.specs.View.{cause_of}
use Rattle.pg_reduction.specs.Doing.{IsReady, Does, DoesWithin, Makes, MakesWithin, Yields}
use Rattle.pg_acts.specs.Named.{asserted_as, split_as, swapped_at, swapping}
use Rattle.pg_acts.specs.Opening.{opening, opened_proof}
use Rattle.pg_reduction.proofs.Does.{does, does-within}
use Rattle.pg_acts.proofs.Justified.{j-rfl, j-exfalso, j-intro, j-left, j-right, j-both, j-witness, j-symm, j-symm_at, j-assert, j-by_cases, j-cases_hyp}

module _ (l : Lookup) (g : Goal) (ready : IsReady l g) where
  pub does-rfl : (r : Result Reduction ActFault) → Makes (reflexivity g.target) (whole reflexive ∷ []) r → Does l g Rfl r
  unfolding new_goals
  does-rfl r m = does l g ready Rfl (reflexivity g.target) (whole reflexive ∷ []) refl (j-rfl l g ready) r m

  pub does-exfalso : (r : Result Reduction ActFault) → Makes (Ok (aimed falsum g ∷ [])) (under_fale ∷ []) r → Does l g Exfalso r
  unfolding new_goals
  does-exfalso r m = does l g ready Exfalso (Ok (aimed falsum g ∷ [])) (under_fale ∷ []) refl (λ new e. j-exfalso l g ready new (cc)) r m

  pub does-intro : (x : Word) (r : Result Reduction ActFault) → Makes (intro_of l g x (goal_form l g)) (opening l g ++ intro_frame (goal_form l g) ∷ []) r → Does l g (Intro x) r
  unfolding new_goals
  does-intro x r m = does l g ready (Intro x) (intro_of l g x (goal_form l g)) (opening l g ++ intro_frame (goal_form l g) ∷ []) refl (j-intro l g ready x) r m

  pub does-left : (r : Result Reduction ActFault) → Makes (left_of g (goal_form l g)) (opening l g ++ under_orl ∷ []) r → Does l g Left r
  unfolding new_goals
  does-left r m = does l g ready Left (left_of g (goal_form l g)) (opening l g ++ under_orl ∷ []) refl (j-left l g ready) r m

  pub does-right : (r : Result Reduction ActFault) → Makes (right_of g (goal_form l g)) (opening l g ++ under_orr ∷ []) r → Does l g Right r
  unfolding new_goals
  does-right r m = does l g ready Right (right_of g (goal_form l g)) (opening l g ++ under_orr ∷ []) refl (j-right l g ready) r m

  pub does-both : (r : Result Reduction ActFault) → Makes (both_of g (goal_form l g)) (opening l g ++ pair ∷ []) r → Does l g Constructor r
  unfolding new_goals
  does-both r m = does l g ready Constructor (both_of g (goal_form l g)) (opening l g ++ pair ∷ []) refl (j-both l g ready) r m

  pub does-witness : (p : Part) (t : Tm) → term_there l g p ≡ Ok t → (r : Result Reduction ActFault) → MakesWithin (witness_of g t (goal_form l g)) (opening l g ++ under_exi t ∷ []) r → DoesWithin l g (Witness p) r
  unfolding new_goals
  does-witness p t is r m =
      does-within l g ready (Witness p) (witness_of g t (goal_form l g)) (opening l g ++ under_exi t ∷ []) (ap (λ x. and_then x (λ t. witness_of g t (goal_form l g))) is) (j-witness l g ready p t is) r m

  pub does-symm : (r : Result Reduction ActFault) → Makes (symmetric g) (symm_frames (length g.hyps) g.target) r → Does l g Symm r
  unfolding new_goals
  does-symm r m = does l g ready Symm (symmetric g) (symm_frames (length g.hyps) g.target) refl (j-symm l g ready) r m

  pub does-assert : (x : Word) (p : Part) (a : Fm) → formula_there l g p ≡ Ok a → (r : Result Reduction ActFault) → Makes (asserted_as l g x a) (lemma a (length g.hyps) ∷ []) r → Does l g (Assert x p) r
  unfolding new_goals
  does-assert x p a is r m = does l g ready (Assert x p) (asserted_as l g x a) (lemma a (length g.hyps) ∷ []) (ap (λ y. and_then y (asserted_as l g x)) is) (j-assert l g ready p a is x) r m

  pub does-by_cases : (x : Word) (p : Part) (a : Fm) → formula_there l g p ≡ Ok a → (r : Result Reduction ActFault) → Makes (split_as l g x a) (split a (imp a falsum) lem ∷ []) r → Does l g (ByCases x p) r
  unfolding new_goals
  does-by_cases x p a is r m = does l g ready (ByCases x p) (split_as l g x a) (split a (imp a falsum) lem ∷ []) (ap (λ y. and_then y (split_as l g x)) is) (j-by_cases l g ready p a is x) r m

  -- ---- acts on a hypothesis

  pub does-symm_at : (x : Word) (f : Found) → hypothesis g x.text ≡ Some f → (r : Result Reduction ActFault) → Makes (swapped_at g f) (swapping (length g.hyps) f (swapped f.hyp.formula)) r → Does l g (SymmAt x) r
  unfolding new_goals
  does-symm_at x f is r m =
      does l g ready (SymmAt x) (swapped_at g f) (swapping (length g.hyps) f (swapped f.hyp.formula)) (ap (λ o. and_then (wanted o (NoSuchName x.at)) (swapped_at g)) is) (j-symm_at l g ready x f is) r m

  pub does-cases : (x : Word) (ws : List Word) (f : Found) → variable_named g x.text ≡ None → hypothesis g x.text ≡ Some f → (r : Result Reduction ActFault) →
      Makes (cases_of_hyp l g f ws) (cases_frames (opened_proof l f) (head_unfolded l f.hyp.formula)) r → Does l g (Cases x ws) r
  unfolding new_goals
  does-cases x ws f none is r m =
      does l g ready (Cases x ws) (cases_of_hyp l g f ws) (cases_frames (opened_proof l f) (head_unfolded l f.hyp.formula))
      (ap (λ v. cases_as l g x ws v (hypothesis g x.text)) none ∙ ap (cases_as l g x ws None) is) (j-cases_hyp l g ready x f is ws) r m

-- ---- stops

-- there is no hypothesis of the name
pub unnamed-symm_at : (l : Lookup) (g : Goal) (x : Word) → hypothesis g x.text ≡ None → new_goals l g (SymmAt x) ≡ Err (NoSuchName x.at)
unfolding new_goals
unnamed-symm_at l g x is = ap (λ o. and_then (wanted o (NoSuchName x.at)) (swapped_at g)) is

pub unnamed-cases : (l : Lookup) (g : Goal) (x : Word) (ws : List Word) → variable_named g x.text ≡ None → hypothesis g x.text ≡ None → new_goals l g (Cases x ws) ≡ Err (NoSuchName x.at)
unfolding new_goals
unnamed-cases l g x ws none is = ap (λ v. cases_as l g x ws v (hypothesis g x.text)) none ∙ ap (cases_as l g x ws None) is

-- what is wanted is not read
pub unread-witness : (l : Lookup) (g : Goal) (p : Part) (c : Cause) → term_there l g p ≡ Err c → new_goals l g (Witness p) ≡ Err c
unfolding new_goals
unread-witness l g p c is = ap (λ x. and_then x (λ t. witness_of g t (goal_form l g))) is

pub unread-assert : (l : Lookup) (g : Goal) (x : Word) (p : Part) (c : Cause) → formula_there l g p ≡ Err c → new_goals l g (Assert x p) ≡ Err c
unfolding new_goals
unread-assert l g x p c is = ap (λ y. and_then y (asserted_as l g x)) is

pub unread-by_cases : (l : Lookup) (g : Goal) (x : Word) (p : Part) (c : Cause) → formula_there l g p ≡ Err c → new_goals l g (ByCases x p) ≡ Err c
unfolding new_goals
unread-by_cases l g x p c is = ap (λ y. and_then y (split_as l g x)) is
