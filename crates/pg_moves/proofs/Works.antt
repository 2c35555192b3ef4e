-- Every act: where it goes well, proofs of the new goals make one of the old goal.
use Rattle.std.proofs.Common.{◌≡◌, ℕ, ◌+◌, ◌<◌, List, length, Bool, true, false, ◌&&◌, Option, Some, None, refl, arith}
use Rattle.std.specs.Prelude.{position, nat_lt, cond}
use Rattle.std.specs.List.{position_or_len}
use Rattle.std.proofs.lemmas.Bool.{ltb-true}
use Rattle.std.specs.Str.{bytes_eq}
use Rattle.pg_base.specs.Tokens.{Word}
use Rattle.pg_logic.specs.Declarations.{Name, signature_of}
use Rattle.pg_moves.specs.Goals.{Var, Goal, variable_named}
use Rattle.pg_moves.specs.Lookup.{Lookup}
use Rattle.pg_moves.specs.Acts.{Act, Rfl, Exact, Intro, Apply, ApplyAt, Rewrite, RewriteAt, Induction, Cases, Left, Right, Constructor, Witness, Symm, SymmAt, Exfalso, Assert, Have, Revert, ByCases, Unknown}
use Rattle.pg_moves.specs.Assuming.{Found, hypothesis, reverted_as}
use Rattle.pg_moves.specs.Inducting.{inducted_as, cases_as}
use Rattle.pg_moves.specs.Steps.{new_goals}
use Rattle.pg_moves.specs.Proofs.{sequent}
use Rattle.pg_moves.proofs.ByRecursion.{Fits}
use Rattle.pg_moves.proofs.Given.{Sound}
use Rattle.pg_moves.proofs.Good.{Works, works-rfl, works-exact, works-intro, works-left, works-right, works-both, works-witness, works-exfalso}
use Rattle.pg_moves.proofs.Hypothetical.{found-there, works-symm, works-symm_at, works-assert, works-by_cases, works-had, works-revert_hyp}
use Rattle.pg_moves.proofs.Cased.{works-cases_hyp}
use Rattle.pg_moves.proofs.Inducted.{works-revert_var, works-induction_var, works-cases_var}
use Rattle.pg_moves.proofs.Rewritten.{works-rewrite, works-rewrite_at}
use Rattle.pg_moves.proofs.Applied.{works-apply, works-apply_at}

position-within : {X : Type 0} (p : X → Bool) (xs : List X) (k : ℕ) → position p xs ≡ Some k → k < length xs
position-within p xs k e = go (nat_lt (position_or_len p xs) (length xs)) refl e
  where
    go : (b : Bool) → nat_lt (position_or_len p xs) (length xs) ≡ b → cond b (Some (position_or_len p xs)) None ≡ Some k → k < length xs
    go true is e = let q : position_or_len p xs ≡ k = cc in let lt = ltb-true (position_or_len p xs) (length xs) is in omega (arith, q, lt)
    go false is e = absurd (cc)

module _ (l : Lookup) (ok : Sound l) (g : Goal) (fit : Fits (signature_of l.declared) (sequent g)) (room : length g.vars + 1 < 4294967295) where
  within : (x : Name) (k : ℕ) → variable_named g x ≡ Some k → k < length g.vars
  within x k e = position-within (λ (v : Var). v.live && bytes_eq x v.name) g.vars k e

  revert-works : (x : Word) (o : Option Found) (v : Option ℕ) → hypothesis g x.text ≡ o → variable_named g x.text ≡ v → Works l g (reverted_as g x o v)
  revert-works x (Some f) v e e' = works-revert_hyp l ok g fit f (found-there g x.text f e)
  revert-works x None (Some k) e e' = works-revert_var l ok g fit room k (within x.text k e') x.text
  revert-works x None None e e' = λ new q. absurd (cc)

  induction-works : (x : Word) (ws : List Word) (v : Option ℕ) (o : Option Found) → variable_named g x.text ≡ v → Works l g (inducted_as l g x ws v o)
  induction-works x ws (Some k) o e = works-induction_var l ok g fit room k (within x.text k e) ws
  induction-works x ws None (Some f) e = λ new q. absurd (cc)
  induction-works x ws None None e = λ new q. absurd (cc)

  cases-works : (x : Word) (ws : List Word) (v : Option ℕ) (o : Option Found) → variable_named g x.text ≡ v → hypothesis g x.text ≡ o → Works l g (cases_as l g x ws v o)
  cases-works x ws (Some k) o e e' = works-cases_var l ok g fit room k (within x.text k e) ws
  cases-works x ws None (Some f) e e' = works-cases_hyp l ok g fit (omega arith) f (found-there g x.text f e') ws
  cases-works x ws None None e e' = λ new q. absurd (cc)

  pub works : (a : Act) → Works l g (new_goals l g a)
  unfolding new_goals
  works Rfl = works-rfl l ok g fit
  works (Exact e) = works-exact l ok g fit e
  works (Intro x) = works-intro l ok g fit (omega arith) x
  works (Apply e) = works-apply l ok g fit e
  works (ApplyAt e x) = works-apply_at l ok g fit e x
  works (Rewrite r) = works-rewrite l ok g fit r
  works (RewriteAt r x) = works-rewrite_at l ok g fit r x
  works (Induction x ws) = induction-works x ws (variable_named g x.text) (hypothesis g x.text) refl
  works (Cases x ws) = cases-works x ws (variable_named g x.text) (hypothesis g x.text) refl refl
  works Left = works-left l ok g fit
  works Right = works-right l ok g fit
  works Constructor = works-both l ok g fit
  works (Witness p) = works-witness l ok g fit p
  works Symm = works-symm l ok g fit
  works (SymmAt x) = works-symm_at l ok g fit x
  works Exfalso = works-exfalso l ok g fit
  works (Assert x p) = works-assert l ok g fit x p
  works (Have x o e) = works-had l ok g fit x o e
  works (Revert x) = revert-works x (hypothesis g x.text) (variable_named g x.text) refl refl
  works (ByCases x p) = works-by_cases l ok g fit x p
  works Unknown = λ new q. absurd (cc)
