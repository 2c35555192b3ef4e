-- What an act on a goal answers.
use Rattle.std.specs.Prelude.{◌≡◌, ◌<◌, ◌+◌, List, length, map, flat_map, Option, Some, option_map, Result, Ok, Err}
use Rattle.pg_logic.specs.Declarations.{signature_of}
use Rattle.pg_moves.specs.Goals.{Goal}
use Rattle.pg_moves.specs.Causes.{Tried}
use Rattle.pg_moves.specs.Lookup.{Lookup}
use Rattle.pg_moves.specs.Acts.{Act}
use Rattle.pg_moves.specs.Steps.{new_goals}
use Rattle.pg_moves.specs.Proofs.{Fits, sequent}
use Rattle.pg_moves.specs.Frames.{Frame}
use Rattle.pg_moves.specs.Laws.{IsSound, Justifies}
use Rattle.pg_moves.specs.Measures.{first_over, goal_measures}
use Rattle.pg_goal.specs.View.{goal_of}
use Rattle.pg_frames.specs.View.{frames_of}
use Rattle.pg_reduction.specs.Limits.{told}
use Rattle.pg_reduction.specs.View.{cause_of}
use Rattle.pg_reduction.specs.declared.cause.Cause.{Cause}
use Rattle.pg_reduction.specs.declared.cause.ActFault.{ActFault}
use Rattle.pg_reduction.specs.declared.cause.ActFault.TheVariants.{Stop, OutOfMemory}
use Rattle.pg_reduction.specs.declared.reduction.Reduction.{Reduction}

-- What an act asks for: the look-up is sound, the goal fits, and there is room for two variables and two hypotheses more.
pub record IsReady (l : Lookup) (g : Goal) : Type 0 where
  pub sound : IsSound l
  pub fits : Fits (signature_of l.declared) (sequent g)
  pub vars : length g.vars + 1 < 4294967295
  pub hyps : length g.hyps + 1 < 4294967295

-- The new goals are those that the act makes of the goal. Through the frames proofs of them make one of the goal, whatever
-- goals stand behind; they fit, and have one variable more at most.
pub record Reduces (l : Lookup) (g : Goal) (act : Act) (r : Reduction) : Type 0 where
  pub goals : new_goals l g act ≡ Ok (map goal_of r.goals)
  pub justified : Justifies l (sequent g) (map sequent (map goal_of r.goals)) (frames_of r.frames)

-- the goal is reduced by the act, or the act stops by its cause
abbrev pub Does : Lookup → Goal → Act → Result Reduction ActFault → Type 0
Does l g act (Ok r) = Reduces l g act r
Does l g act (Err (Stop c)) = new_goals l g act ≡ Err (cause_of c)
Does l g act (Err OutOfMemory) = Unit {0}

-- by its cause, or by the first limit that a new goal passes by itself, as told
abbrev pub StopsWithin : Tried (List Goal) → Cause → Type 0
StopsWithin (Err e) c = e ≡ cause_of c
StopsWithin (Ok new) c = option_map told (first_over (flat_map goal_measures new)) ≡ Some (cause_of c)

-- The act reduces the goal, or it stops. It may stop by a limit before the new goals are made.
abbrev pub DoesWithin : Lookup → Goal → Act → Result Reduction ActFault → Type 0
DoesWithin l g act (Ok r) = Reduces l g act r
DoesWithin l g act (Err (Stop c)) = StopsWithin (new_goals l g act) c
DoesWithin l g act (Err OutOfMemory) = Unit {0}

-- ---- inside

-- these goals by these frames, or this cause
abbrev pub Makes : Tried (List Goal) → List Frame → Result Reduction ActFault → Type 0
Makes want frames (Ok r) = (want ≡ Ok (map goal_of r.goals)) × (frames_of r.frames ≡ frames)
Makes want frames (Err (Stop c)) = want ≡ Err (cause_of c)
Makes want frames (Err OutOfMemory) = Unit {0}

-- these goals by these frames, or this cause; it may be a limit that is told before the goals are made
abbrev pub MakesWithin : Tried (List Goal) → List Frame → Result Reduction ActFault → Type 0
MakesWithin want frames (Ok r) = (want ≡ Ok (map goal_of r.goals)) × (frames_of r.frames ≡ frames)
MakesWithin want frames (Err (Stop c)) = StopsWithin want c
MakesWithin want frames (Err OutOfMemory) = Unit {0}

-- these goals by these frames
abbrev pub Has : List Goal → List Frame → Reduction → Type 0
Has goals frames r = (map goal_of r.goals ≡ goals) × (frames_of r.frames ≡ frames)

-- a value, or this cause
abbrev pub Yields : {X Y : Type 0} → (X → Y) → Tried Y → Result X ActFault → Type 0
Yields view want (Ok x) = want ≡ Ok (view x)
Yields view want (Err (Stop c)) = want ≡ Err (cause_of c)
Yields view want (Err OutOfMemory) = Unit {0}
