-- A step by what its parts answer.
use Rattle.std.proofs.Common.{◌≡◌, ℕ, ◌-◌, ◌<◌, ◌≤◌, List, [], ◌∷◌, ◌++◌, length, get_or, take, drop, Option, Some, None, refl, sym, ap, ◌∙◌, subst, inl, inr, arith}
use Rattle.std.specs.Prelude.{Result, Ok, Err, IsErr, IsErrAnd, slice_get}
use Rattle.std.proofs.lemmas.Option.{slice_get_cases}
use Rattle.std.proofs.lemmas.List.{take_all}
use Rattle.pg_script.specs.Data.{Step}
use Rattle.pg_worlds.specs.declared.tactic_name.TacticName.{TacticName}
use Rattle.pg_moves.specs.Acts.{Act, acts_of}
use Rattle.pg_moves.specs.Causes as causes
use Rattle.pg_moves.specs.Causes.{Tried, and_then, wanted}
use Rattle.pg_moves.specs.Goals as moves
use Rattle.pg_moves.specs.Lookup.{Lookup}
use Rattle.pg_moves.specs.Steps.{step, move_there, acted}
use Rattle.pg_goal.specs.View.{goal_of}
use Rattle.pg_goal.specs.declared.goal.Goal.{Goal}
use Rattle.pg_reduction.specs.declared.cause.Cause.TheVariants.{NoGoal}
use Rattle.pg_reduction.specs.declared.cause.ActFault.{ActFault}
use Rattle.pg_reduction.specs.declared.cause.ActFault.TheVariants.{Stop, OutOfMemory}
use Rattle.pg_reduction.specs.declared.reduction.Reduction.{Reduction}
use Rattle.pg_runs.specs.State.{goals_of}
use Rattle.pg_runs.specs.Running.{CanMove, IsReduced, Steps, StopsBy}
use Rattle.pg_runs.specs.declared.state.State.{State}
use Rattle.pg_runs.proofs.Carrying as carrying

-- a list by its first element
pub first_of : (gs : List Goal) (x : Goal) → x ≡ get_or gs 0 x → 1 ≤ length gs → goals_of gs ≡ goal_of x ∷ goals_of (drop 1 gs)
first_of [] x is le = absurd (omega arith)
first_of (y ∷ gs) x is le = ap (λ z. goal_of z ∷ goals_of gs) (sym is)

pub none_of : (gs : List Goal) → length gs < 1 → goals_of gs ≡ []
none_of [] lt = refl
none_of (y ∷ gs) lt = absurd (omega arith)

-- a fault that is handed on
pub handed : (P : Result (Unit {0}) ActFault → Type 0) (r : Result (Unit {0}) ActFault) (f : ActFault) → IsErr r × IsErrAnd r (λ x. x ≡ f) → P (Err f) → P r
handed P (Ok x) f is h = cc
handed P (Err x) f is h = subst (λ z. P (Err z)) (sym is.1) h

-- the rest of a list, as a slice
pub rest_of : (gs : List Goal) → take (length gs - 1) (drop 1 gs) ≡ drop 1 gs
rest_of [] = refl
rest_of (g ∷ gs) = take_all (length (g ∷ gs) - 1) gs (omega arith)

module _ (l : Lookup) (m : Step) (part : ℕ) where
  -- what comes behind the word
  abbrev behind : List moves.Goal → TacticName → Tried (List moves.Goal)
  behind gs t = and_then (wanted (slice_get (acts_of m.head m.shape) part) causes.NoGoal) (acted l gs)

  -- the word stops it
  pub cannot : (old : State) (f : ActFault) → CanMove (move_there l m.head) (Err f) → Steps l (step l (goals_of old.goals) m part) old old (Err f)
  cannot old OutOfMemory q = tt
  cannot old (Stop c) q = (go (move_there l m.head) q, refl)
    where
      go : (r : Tried TacticName) → CanMove r (Err (Stop c)) → StopsBy (and_then r (behind (goals_of old.goals))) c
      go (Ok t) q = absurd q
      go (Err e) q = inl q

  -- there is no goal
  pub no_goal : (gs : List moves.Goal) → gs ≡ [] → CanMove (move_there l m.head) (Ok tt) → StopsBy (step l gs m part) NoGoal
  no_goal gs none q = subst (λ gs. StopsBy (step l gs m part) NoGoal) (sym none) (go (move_there l m.head) q)
    where
      none-of : (o : Option Act) → StopsBy (and_then (wanted o causes.NoGoal) (acted l [])) NoGoal
      none-of None = inl refl
      none-of (Some a) = inl refl

      go : (r : Tried TacticName) → CanMove r (Ok tt) → StopsBy (and_then r (behind [])) NoGoal
      go (Ok t) q = none-of (slice_get (acts_of m.head m.shape) part)
      go (Err e) q = absurd q

  -- the act decides
  pub acts : (gs : List moves.Goal) → part < length (acts_of m.head m.shape) → CanMove (move_there l m.head) (Ok tt) →
      (a : Act) × (slice_get (acts_of m.head m.shape) part ≡ Some a) × (step l gs m part ≡ acted l gs a)
  acts gs lt q =
      elim ((slice_get_cases (acts_of m.head m.shape) part).1) as (λ o. (a : Act) × (slice_get (acts_of m.head m.shape) part ≡ Some a) × (step l gs m part ≡ acted l gs a)) [
        | inl x ↦ (x.0, x.2, go (move_there l m.head) q x.0 x.2)
        | inr y ↦ absurd (omega (arith, lt, y.0))
      ]
    where
      go : (r : Tried TacticName) → CanMove r (Ok tt) → (a : Act) → slice_get (acts_of m.head m.shape) part ≡ Some a → and_then r (behind gs) ≡ acted l gs a
      go (Err e) q a is = absurd q
      go (Ok t) q a is = ap (λ o. and_then (wanted o causes.NoGoal) (acted l gs)) is

  -- it stops
  pub halted : (old : State) (g : moves.Goal) (rest : List moves.Goal) (f : ActFault) → goals_of old.goals ≡ g ∷ rest → part < length (acts_of m.head m.shape) → CanMove (move_there l m.head) (Ok tt) →
      ((a : Act) → slice_get (acts_of m.head m.shape) part ≡ Some a → IsReduced l g rest a (Err f)) → Steps l (step l (goals_of old.goals) m part) old old (Err f)
  halted old g rest OutOfMemory here lt q d = tt
  halted old g rest (Stop c) here lt q d =
      let x = acts (goals_of old.goals) lt q in
      (subst (λ r. StopsBy r c) (sym (x.2 ∙ ap (λ gs. acted l gs x.0) here)) (d x.0 x.1), refl)

  -- it goes well
  pub done : (old new : State) (g : moves.Goal) (rest : List moves.Goal) (r : Reduction) → goals_of old.goals ≡ g ∷ rest → part < length (acts_of m.head m.shape) → CanMove (move_there l m.head) (Ok tt) →
      ((a : Act) → slice_get (acts_of m.head m.shape) part ≡ Some a → IsReduced l g rest a (Ok r)) → new.frames ≡ old.frames ++ r.frames → goals_of new.goals ≡ goals_of r.goals ++ rest →
      Steps l (step l (goals_of old.goals) m part) old new (Ok tt)
  done old new g rest r here lt q d frames after =
      let x = acts (goals_of old.goals) lt q in
      let w = d x.0 x.1 in (
        x.2 ∙ ap (λ gs. acted l gs x.0) here ∙ carrying.act_goes l g rest (goals_of r.goals) x.0 w.0.goals w.1 ∙ ap Ok (sym after),
        carrying.carries l old new g rest x.0 r here w frames after,
      )
