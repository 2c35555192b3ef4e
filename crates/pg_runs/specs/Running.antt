-- What steps and runs answer, against their definitions.
use Rattle.std.specs.Prelude.{ℕ, ◌≡◌, ◌⊎◌, List, ◌∷◌, ◌++◌, Result, Ok, Err, None}
use Rattle.pg_terms.specs.View.{formula}
use Rattle.pg_kernel.specs.View.{proof}
use Rattle.pg_syntax.specs.declared.statement.Statement.{Statement}
use Rattle.pg_syntax.specs.Statements.{closed}
use Rattle.pg_moves.specs.Causes as causes
use Rattle.pg_moves.specs.Causes.{Tried}
use Rattle.pg_moves.specs.Goals as moves
use Rattle.pg_moves.specs.Lookup.{Lookup}
use Rattle.pg_moves.specs.Runs as runs
use Rattle.pg_moves.specs.Runs.{Ran}
use Rattle.pg_moves.specs.Acts.{Act}
use Rattle.pg_moves.specs.Measures.{first_large}
use Rattle.pg_moves.specs.Steps.{acted}
use Rattle.pg_worlds.specs.declared.tactic_name.TacticName.{TacticName}
use Rattle.pg_reduction.specs.Doing.{Reduces}
use Rattle.pg_reduction.specs.declared.reduction.Reduction.{Reduction}
use Rattle.pg_reduction.specs.Limits.{told}
use Rattle.pg_reduction.specs.View.{cause_of}
use Rattle.pg_reduction.specs.declared.cause.Cause.{Cause}
use Rattle.pg_reduction.specs.declared.cause.ActFault.{ActFault}
use Rattle.pg_reduction.specs.declared.cause.ActFault.TheVariants as act
use Rattle.pg_runs.specs.Asked.{IsProof, IsTrueByTheorems}
use Rattle.pg_runs.specs.State.{goals_of, Carries}
use Rattle.pg_runs.specs.declared.state.State.{State}
use Rattle.pg_runs.specs.declared.running.Halt.{Halt}
use Rattle.pg_runs.specs.declared.running.Halt.TheVariants as halt
use Rattle.pg_runs.specs.declared.running.Stop.{Stop}
use Rattle.pg_runs.specs.declared.running.Outcome.{Outcome}
use Rattle.pg_runs.specs.declared.running.Outcome.TheVariants.{Closed, Unfinished, Stopped}

-- the cause; or the same with a number that stays at its type's end
abbrev pub IsTold : causes.Cause → Cause → Type 0
IsTold want c = (want ≡ cause_of c) ⊎ (told want ≡ cause_of c)

-- ---- steps

-- a step stops by this cause, as told
abbrev pub StopsBy : Tried (List moves.Goal) → Cause → Type 0
StopsBy (Ok gs) c = ⊥
StopsBy (Err e) c = IsTold e c

-- the word is that of an available move, or this cause
abbrev pub CanMove : Tried TacticName → Result (Unit {0}) ActFault → Type 0
CanMove (Ok t) (Ok x) = Unit {0}
CanMove (Err e) (Err (act.Stop c)) = e ≡ cause_of c
CanMove want (Err act.OutOfMemory) = Unit {0}
CanMove want r = ⊥

-- The act reduces the goal, and the new block is within the limits; or it stops so.
abbrev pub IsReduced : Lookup → moves.Goal → (rest : List moves.Goal) → Act → Result Reduction ActFault → Type 0
IsReduced l g rest a (Ok r) = Reduces l g a r × (first_large (goals_of r.goals) (goals_of r.goals ++ rest) ≡ None)
IsReduced l g rest a (Err (act.Stop c)) = StopsBy (acted l (g ∷ rest) a) c
IsReduced l g rest a (Err act.OutOfMemory) = Unit {0}

-- The step makes these goals, or stops by its cause and leaves the state. Only want of memory is free.
abbrev pub Steps : Lookup → Tried (List moves.Goal) → (old new : State) → Result (Unit {0}) ActFault → Type 0
Steps l want old new (Ok x) = (want ≡ Ok (goals_of new.goals)) × Carries l 1 old new
Steps l want old new (Err (act.Stop c)) = StopsBy want c × (new ≡ old)
Steps l want old new (Err act.OutOfMemory) = Unit {0}

-- ---- runs

-- a stop, as told
abbrev pub IsStop : runs.Stop → Stop → Type 0
IsStop want s = (want.item ≡ s.item) × (want.part ≡ s.part) × IsTold want.cause s.cause × (want.goals ≡ goals_of s.goals)

-- a run stops so
abbrev pub StopsAt : Ran → Stop → Type 0
StopsAt (Ok gs) s = ⊥
StopsAt (Err want) s = IsStop want s

-- The items leave these goals, or stop there. Only want of memory is free.
abbrev pub Runs : {X : Type 0} → Lookup → Ran → (spent : ℕ) → (old new : State) → Result X Halt → Type 0
Runs l want spent old new (Ok x) = (want ≡ Ok (goals_of new.goals)) × Carries l spent old new
Runs l want spent old new (Err (halt.Stop s)) = StopsAt want s
Runs l want spent old new (Err halt.OutOfMemory) = Unit {0}

-- ---- the whole

-- an outcome that is a stop
abbrev pub StopsSo : runs.Outcome → Stop → Type 0
StopsSo (runs.Stopped want) s = IsStop want s
StopsSo _ s = ⊥

-- The run ends as defined. Where it is closed, the goal is the statement's formula, the kernel accepts the proof of it, and
-- the proof names available theorems alone; where these are true, the statement is. Only want of memory is free.
abbrev pub Ends : {E : Type 0} → Lookup → Statement → runs.Outcome → Result Outcome E → Type 0
Ends l st want (Ok (Closed c)) = (want ≡ runs.Closed) × (formula c.0 ≡ closed st.binders.items (formula st.target)) × IsProof l st (proof c.1) × IsTrueByTheorems l st (proof c.1)
Ends l st want (Ok (Unfinished gs)) = want ≡ runs.Open (goals_of gs)
Ends l st want (Ok (Stopped s)) = StopsSo want s
Ends l st want (Err e) = Unit {0}
