-- The acts that take an expression: from what it gives, with its proof, to what they do.
use Rattle.std.proofs.Common.{◌≡◌, List, [], ◌∷◌, map, true, Option, ap, sym, ◌∙◌, subst}
use Rattle.std.specs.Prelude.{Result, Ok, Err, IfOk}
use Rattle.pg_base.specs.Tokens.{Word}
use Rattle.pg_logic.specs.Tree.{Fm, same_formula}
use Rattle.pg_logic.specs.Declarations.{signature_of}
use Rattle.pg_logic.specs.Kernel.{Pf}
use Rattle.pg_kernel.specs.View.{proof}
use Rattle.pg_script.specs.Data.{Part, Expression}
use Rattle.pg_moves.specs.Acts.{Act, Exact, Have}
use Rattle.pg_moves.specs.Assuming.{said_or_given}
use Rattle.pg_moves.specs.Causes.{Cause, Tried, WrongArgument, and_then}
use Rattle.pg_moves.specs.Closing.{given, closed_by, formula_there}
use Rattle.pg_moves.specs.Expressions.{read_formula, begins}
use Rattle.pg_moves.specs.Frames.{Frame, whole, cut}
use Rattle.pg_moves.specs.Goals.{Goal, live_names, with_hyp}
use Rattle.pg_moves.specs.Laws.{Justifies}
use Rattle.pg_moves.specs.Lookup.{Lookup, given_name}
use Rattle.pg_moves.specs.Proofs.{sequent}
use Rattle.pg_moves.specs.Steps.{new_goals}
use Rattle.pg_moves.proofs.ByRecursion as by
use Rattle.pg_moves.proofs.Given.{Sound}
use Rattle.pg_moves.proofs.Good.{good-exact}
use Rattle.pg_moves.proofs.Hypothetical.{good-had}
use Rattle.pg_moves.proofs.Rules.{same_formula-refl}
use Rattle.pg_moves.proofs.Sequents.{then-ok, wanted-ok}
use Rattle.pg_reduction.proofs.Does.{J, ok, fit, by-good, does}
use Rattle.pg_goal.specs.Conditions.{IsProved}
use Rattle.pg_goal.specs.View.{goal_of}
use Rattle.pg_goal.specs.declared.expression.Given.{Given}
use Rattle.pg_reduction.specs.declared.cause.ActFault.{ActFault}
use Rattle.pg_reduction.specs.declared.cause.ActFault.TheVariants.{Stop, OutOfMemory}
use Rattle.pg_reduction.specs.declared.reduction.Reduction.{Reduction}
use Rattle.pg_reduction.specs.Doing.{IsReady, Does, Makes}
use Rattle.pg_reduction.specs.Giving.{said}
use Rattle.pg_acts.specs.Giving.{IsKnown, had_as}

module _ (l : Lookup) (g : Goal) (ready : IsReady l g) where
  -- ---- `exact e`

  j-exact : (a : Fm) (p : Pf) → IsProved l g a p → (new : List Goal) → closed_by g.target a ≡ Ok new → J l g ready new (whole p ∷ [])
  j-exact a p is new e = by-good l g ready new _ (good-exact l (ok l g ready) g (fit l g ready) a p is.shows new e)

  pub does-exact : (e : Expression) (a : Fm) (p : Pf) → given l g e ≡ Ok a → IsProved l g a p → (r : Result Reduction ActFault) → Makes (closed_by g.target a) (whole p ∷ []) r → Does l g (Exact e) r
  unfolding new_goals
  does-exact e a p is shown r m = does l g ready (Exact e) (closed_by g.target a) (whole p ∷ []) (ap (λ x. and_then x (closed_by g.target)) is) (j-exact a p shown) r m

  -- ---- `have h := e`, `have h : A := e`

  j-had : (x : Word) (a : Fm) (p : Pf) → IsKnown l g a p → (new : List Goal) → had_as l g x a ≡ Ok new → J l g ready new (cut a p ∷ [])
  j-had x a p is new e =
      let z = then-ok (given_name l (live_names g) x) (λ n. Ok (with_hyp n a g ∷ [])) new e in
      by-good l g ready new _ (good-had l (ok l g ready) g (fit l g ready) a p is.fitting is.proves z.0 new (cc))

  pub does-have : (x : Word) (o : Option Part) (e : Expression) (a : Fm) (p : Pf) → said_or_given l g o e ≡ Ok a → IsKnown l g a p → (r : Result Reduction ActFault) → Makes (had_as l g x a) (cut a p ∷ []) r → Does l g (Have x o e) r
  unfolding new_goals
  does-have x o e a p is known r m = does l g ready (Have x o e) (had_as l g x a) (cut a p ∷ []) (ap (λ y. and_then y (had_as l g x)) is) (j-had x a p known) r m

  -- what is proved is known
  pub known : (a : Fm) (p : Pf) → IsProved l g a p → IsKnown l g a p
  known a p is = record { fitting = is.fitting; proves = is.shows a (same_formula-refl a) }

  pub known-ok : (r : Result Given ActFault) → IfOk r (λ x. IsProved l g (said x) (proof x.proof)) → IfOk r (λ x. IsKnown l g (said x) (proof x.proof))
  known-ok (Ok x) is = known (said x) (proof x.proof) is
  known-ok (Err e) is = tt

  -- and so is what is said, where it is the same
  pub known-said : (part : Part) (a c : Fm) (p : Pf) → formula_there l g part ≡ Ok a → IsProved l g c p → same_formula c a ≡ true → IsKnown l g a p
  known-said part a c p there is same =
      record { fitting = (ok l g ready).formulas g part a (wanted-ok (read_formula l g part) (WrongArgument (begins part)) a there); proves = is.shows a same }

-- ---- stops

-- nothing is given, or said
pub stopped-exact : (l : Lookup) (g : Goal) (e : Expression) (c : Cause) → given l g e ≡ Err c → new_goals l g (Exact e) ≡ Err c
unfolding new_goals
stopped-exact l g e c is = ap (λ x. and_then x (closed_by g.target)) is

pub stopped-have : (l : Lookup) (g : Goal) (x : Word) (o : Option Part) (e : Expression) (c : Cause) → said_or_given l g o e ≡ Err c → new_goals l g (Have x o e) ≡ Err c
unfolding new_goals
stopped-have l g x o e c is = ap (λ y. and_then y (had_as l g x)) is
