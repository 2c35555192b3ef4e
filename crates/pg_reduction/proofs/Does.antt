-- From the goals and the frames that are made, or the cause, to what an act does.
use Rattle.std.proofs.Common.{◌≡◌, List, map, refl, sym, ◌∙◌, subst}
use Rattle.std.specs.Prelude.{Result, Ok, Err}
use Rattle.pg_logic.specs.Declarations.{signature_of}
use Rattle.pg_moves.specs.Acts.{Act}
use Rattle.pg_moves.specs.Causes.{Cause, Tried}
use Rattle.pg_moves.specs.Frames.{Frame}
use Rattle.pg_moves.specs.Goals.{Goal}
use Rattle.pg_moves.specs.Laws.{Justifies}
use Rattle.pg_moves.specs.Lookup.{Lookup}
use Rattle.pg_moves.specs.Proofs.{sequent}
use Rattle.pg_moves.specs.Steps.{new_goals}
use Rattle.pg_moves.proofs.ByRecursion as by
use Rattle.pg_moves.proofs.Given.{Sound}
use Rattle.pg_moves.proofs.Good.{Good}
use Rattle.pg_moves.proofs.Lawful.{reads, justified}
use Rattle.pg_goal.specs.View.{goal_of}
use Rattle.pg_reduction.specs.declared.cause.ActFault.{ActFault}
use Rattle.pg_reduction.specs.declared.cause.ActFault.TheVariants.{Stop, OutOfMemory}
use Rattle.pg_reduction.specs.declared.reduction.Reduction.{Reduction}
use Rattle.pg_reduction.specs.Doing.{IsReady, Does, DoesWithin, StopsWithin, Makes, MakesWithin, Yields}
use Rattle.pg_reduction.specs.View.{cause_of}

module _ (l : Lookup) (g : Goal) (ready : IsReady l g) where
  pub ok : Sound l
  ok = reads l ready.sound

  pub fit : by.Fits (signature_of l.declared) (sequent g)
  fit = by.from_fits (signature_of l.declared) (sequent g) ready.fits

  -- these frames justify these goals
  abbrev pub J : List Goal → List Frame → Type 0
  J new fs = Justifies l (sequent g) (map sequent new) fs

  pub by-good : (new : List Goal) (fs : List Frame) → Good l (sequent g) (map sequent new) fs → J new fs
  by-good new fs w = justified l (sequent g) (map sequent new) fs w

  pub does : (act : Act) (want : Tried (List Goal)) (fs : List Frame) → new_goals l g act ≡ want → ((new : List Goal) → want ≡ Ok new → J new fs) →
      (r : Result Reduction ActFault) → Makes want fs r → Does l g act r
  does act want fs is j (Ok r) m =
      record {
        goals = is ∙ m.0;
        justified = subst (λ fs. Justifies l (sequent g) (map sequent (map goal_of r.goals)) fs) (sym m.1) (j (map goal_of r.goals) m.0);
      }
  does act want fs is j (Err (Stop c)) m = is ∙ m
  does act want fs is j (Err OutOfMemory) m = tt

  pub does-within : (act : Act) (want : Tried (List Goal)) (fs : List Frame) → new_goals l g act ≡ want → ((new : List Goal) → want ≡ Ok new → J new fs) →
      (r : Result Reduction ActFault) → MakesWithin want fs r → DoesWithin l g act r
  does-within act want fs is j (Ok r) m = does act want fs is j (Ok r) m
  does-within act want fs is j (Err (Stop c)) m = subst (λ w. StopsWithin w c) (sym is) m
  does-within act want fs is j (Err OutOfMemory) m = tt

-- what a `?` hands on
pub handed : {X Y : Type 0} (l : Lookup) (g : Goal) (act : Act) (view : X → Y) (want : Tried Y) → ((c : Cause) → want ≡ Err c → new_goals l g act ≡ Err c) →
    (e : ActFault) → Yields view want (Err e) → Does l g act (Err e)
handed l g act view want go (Stop c) y = go (cause_of c) y
handed l g act view want go OutOfMemory y = tt

-- the same, where the act may stop by a limit
pub handed-within : {X Y : Type 0} (l : Lookup) (g : Goal) (act : Act) (view : X → Y) (want : Tried Y) → ((c : Cause) → want ≡ Err c → new_goals l g act ≡ Err c) →
    (e : ActFault) → Yields view want (Err e) → DoesWithin l g act (Err e)
handed-within l g act view want go (Stop c) y = subst (λ w. StopsWithin w c) (sym (go (cause_of c) y)) refl
handed-within l g act view want go OutOfMemory y = tt
