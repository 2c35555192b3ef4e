-- From the goals and the frames that are made, or the cause, to what the acts on a variable do.
use Rattle.std.proofs.Common.{◌≡◌, ℕ, ◌<◌, ◌&&◌, List, [], ◌∷◌, length, map, false, Some, None, ap, ◌∙◌, subst}
use Rattle.std.specs.Prelude.{Result, Ok, Err}
use Rattle.std.specs.Str.{bytes_eq}
use Rattle.std.proofs.lemmas.List.{length-map}
use Rattle.std.proofs.lemmas.List.Quantifiers.{position-Some}
use Rattle.pg_base.specs.Tokens.{Word}
use Rattle.pg_moves.specs.Acts.{Induction, Cases, Revert}
use Rattle.pg_moves.specs.Assuming.{Found, hypothesis, reverted_hyp, reverted_var, reverted_as}
use Rattle.pg_moves.specs.Causes.{WrongShape, NoSuchName}
use Rattle.pg_moves.specs.Frames.{give}
use Rattle.pg_moves.specs.Goals.{Var, Goal, variable_named}
use Rattle.pg_moves.specs.Inducting.{induction_of_var, inducted_as, cases_of_var, cases_as}
use Rattle.pg_moves.specs.Lookup.{Lookup}
use Rattle.pg_moves.specs.Proofs.{hyp_formula}
use Rattle.pg_moves.specs.Steps.{new_goals}
use Rattle.pg_moves.proofs.Hypothetical.{found-there, good-revert_hyp}
use Rattle.pg_moves.proofs.Inducted.{good-revert_var, good-induction_var, good-cases_var}
use Rattle.pg_reduction.specs.declared.cause.ActFault.{ActFault}
use Rattle.pg_reduction.specs.declared.reduction.Reduction.{Reduction}
use Rattle.pg_reduction.specs.Doing.{IsReady, Does, Makes}
use Rattle.pg_reduction.proofs.Does.{ok, fit, J, by-good, does}
use Rattle.pg_inducts.specs.Framed.{reverting, reverted_frames, inducting, parting, parting_frames}

module _ (l : Lookup) (g : Goal) (ready : IsReady l g) where
  -- so many hypotheses stand in the sequent
  abbrev as-many : length (map hyp_formula g.hyps) ≡ length g.hyps
  as-many = length-map g.hyps hyp_formula

  within : (x : Word) (k : ℕ) → variable_named g x.text ≡ Some k → k < length g.vars
  within x k is = (position-Some (λ (v : Var). v.live && bytes_eq x.text v.name) g.vars k (record { name = []; live = false }) is).0

  -- ---- the frames of each act justify it

  j-revert_hyp : (x : Word) (f : Found) → hypothesis g x.text ≡ Some f → (new : List Goal) → reverted_hyp g f ∷ [] ≡ new → J l g ready new (give f.hyp.formula f.number ∷ [])
  j-revert_hyp x f is new e = by-good l g ready new _ (good-revert_hyp l (ok l g ready) g (fit l g ready) f (found-there g x.text f is) new e)

  j-revert_var : (x : Word) (k : ℕ) → variable_named g x.text ≡ Some k → (new : List Goal) → reverted_var g x.text k ∷ [] ≡ new → J l g ready new (reverting g x.text k)
  j-revert_var x k is new e =
      subst (λ n. J l g ready new (reverted_frames n g x.text k)) as-many (by-good l g ready new _ (good-revert_var l (ok l g ready) g (fit l g ready) ready.vars k (within x k is) x.text new e))

  j-induction : (x : Word) (k : ℕ) → variable_named g x.text ≡ Some k → (ws : List Word) (new : List Goal) → induction_of_var l g k ws ≡ Ok new → J l g ready new (inducting g k)
  j-induction x k is ws new e = by-good l g ready new _ (good-induction_var l (ok l g ready) g (fit l g ready) ready.vars k (within x k is) ws new e)

  j-cases : (x : Word) (k : ℕ) → variable_named g x.text ≡ Some k → (ws : List Word) (new : List Goal) → cases_of_var l g k ws ≡ Ok new → J l g ready new (parting g k)
  j-cases x k is ws new e =
      subst (λ n. J l g ready new (parting_frames n g k)) as-many (by-good l g ready new _ (good-cases_var l (ok l g ready) g (fit l g ready) ready.vars k (within x k is) ws new e))

  -- ---- what they do

  pub does-revert_hyp : (x : Word) (f : Found) → hypothesis g x.text ≡ Some f → (r : Result Reduction ActFault) → Makes (Ok (reverted_hyp g f ∷ [])) (give f.hyp.formula f.number ∷ []) r → Does l g (Revert x) r
  unfolding new_goals
  does-revert_hyp x f is r m =
      does l g ready (Revert x) (Ok (reverted_hyp g f ∷ [])) (give f.hyp.formula f.number ∷ []) (ap (λ o. reverted_as g x o (variable_named g x.text)) is) (λ new e. j-revert_hyp x f is new (cc)) r m

  pub does-revert_var : (x : Word) (k : ℕ) → hypothesis g x.text ≡ None → variable_named g x.text ≡ Some k → (r : Result Reduction ActFault) →
      Makes (Ok (reverted_var g x.text k ∷ [])) (reverting g x.text k) r → Does l g (Revert x) r
  unfolding new_goals
  does-revert_var x k none is r m =
      does l g ready (Revert x) (Ok (reverted_var g x.text k ∷ [])) (reverting g x.text k)
      (ap (λ o. reverted_as g x o (variable_named g x.text)) none ∙ ap (reverted_as g x None) is) (λ new e. j-revert_var x k is new (cc)) r m

  pub does-induction : (x : Word) (k : ℕ) (ws : List Word) → variable_named g x.text ≡ Some k → (r : Result Reduction ActFault) →
      Makes (induction_of_var l g k ws) (inducting g k) r → Does l g (Induction x ws) r
  unfolding new_goals
  does-induction x k ws is r m =
      does l g ready (Induction x ws) (induction_of_var l g k ws) (inducting g k) (ap (λ o. inducted_as l g x ws o (hypothesis g x.text)) is) (j-induction x k is ws) r m

  pub does-cases : (x : Word) (k : ℕ) (ws : List Word) → variable_named g x.text ≡ Some k → (r : Result Reduction ActFault) →
      Makes (cases_of_var l g k ws) (parting g k) r → Does l g (Cases x ws) r
  unfolding new_goals
  does-cases x k ws is r m =
      does l g ready (Cases x ws) (cases_of_var l g k ws) (parting g k) (ap (λ o. cases_as l g x ws o (hypothesis g x.text)) is) (j-cases x k is ws) r m

-- ---- stops

pub unnamed-revert : (l : Lookup) (g : Goal) (x : Word) → hypothesis g x.text ≡ None → variable_named g x.text ≡ None → new_goals l g (Revert x) ≡ Err (NoSuchName x.at)
unfolding new_goals
unnamed-revert l g x is none = ap (λ o. reverted_as g x o (variable_named g x.text)) is ∙ ap (reverted_as g x None) none

pub unnamed-induction : (l : Lookup) (g : Goal) (x : Word) (ws : List Word) → variable_named g x.text ≡ None → hypothesis g x.text ≡ None → new_goals l g (Induction x ws) ≡ Err (NoSuchName x.at)
unfolding new_goals
unnamed-induction l g x ws none is = ap (λ o. inducted_as l g x ws o (hypothesis g x.text)) none ∙ ap (inducted_as l g x ws None) is

pub shapeless-induction : (l : Lookup) (g : Goal) (x : Word) (ws : List Word) (f : Found) → variable_named g x.text ≡ None → hypothesis g x.text ≡ Some f → new_goals l g (Induction x ws) ≡ Err WrongShape
unfolding new_goals
shapeless-induction l g x ws f none is = ap (λ o. inducted_as l g x ws o (hypothesis g x.text)) none ∙ ap (inducted_as l g x ws None) is
