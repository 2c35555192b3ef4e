-- States of a block: its goals, and the frames that turn proofs of them into one of the first goal.
use Rattle.std.specs.Prelude.{ℕ, ◌<◌, ◌+◌, ◌^◌, List, ◌++◌, All, length, map}
use Rattle.pg_logic.specs.Declarations.{signature_of}
use Rattle.pg_logic.specs.Tree.{nodes_of}
use Rattle.pg_moves.specs.Measures.{formulas}
use Rattle.pg_moves.specs.Goals as moves
use Rattle.pg_moves.specs.Laws.{IsSound}
use Rattle.pg_moves.specs.Lookup.{Lookup, IsAvailable}
use Rattle.pg_moves.specs.Proofs.{Sequent, sequent, Fits}
use Rattle.pg_syntax.specs.declared.statement.Binder.{Binder}
use Rattle.pg_syntax.specs.declared.statement.Binder.TheVariants.{Var, Hyp}
use Rattle.pg_moves.specs.Frames.{Frame, under_alli, under_impi, Turns}
use Rattle.pg_goal.specs.View.{goal_of}
use Rattle.pg_goal.specs.declared.goal.Goal.{Goal}
use Rattle.pg_frames.specs.View.{frames_of}
use Rattle.pg_runs.specs.declared.state.State.{State}

-- the goals of a block
abbrev pub goals_of : List Goal → List moves.Goal
goals_of gs = map goal_of gs

-- the frame that brings a binder in
abbrev pub introduces : Binder → Frame
introduces (Var x) = under_alli
introduces (Hyp h a) = under_impi

-- Through the frames, proofs of the new goals make proofs of the old ones, whatever goals stand behind.
abbrev pub Leads : Lookup → List Frame → (old new : List moves.Goal) → Type 0
Leads l fs old new =
    (below : List Sequent) → Turns (signature_of l.declared) l.theorems (IsAvailable l) fs (map sequent old ++ below) (map sequent new ++ below)

-- The look-up is sound, and numbers of 32 bits count its names and the nodes of each theorem.
pub record IsUsable (l : Lookup) : Type 0 where
  pub sound : IsSound l
  pub names : length l.names < 2 ^ 32
  pub theorems : All (λ a. nodes_of a < 2 ^ 32) l.theorems

-- A goal fits, and there is room for so many variables more. Its hypotheses and the nodes of each formula are fewer than 2^29.
pub record HasRoom (l : Lookup) (room : ℕ) (g : moves.Goal) : Type 0 where
  pub fits : Fits (signature_of l.declared) (sequent g)
  pub vars : length g.vars + room < 4294967295
  pub hyps : length g.hyps < 2 ^ 29
  pub nodes : All (λ a. nodes_of a < 2 ^ 29) (formulas g)

-- the same of each goal
abbrev pub HaveRoom : Lookup → ℕ → List moves.Goal → Type 0
HaveRoom l room gs = All (HasRoom l room) gs

-- What the frames did for the goals before, they do for those after. So much room is spent.
pub record Carries (l : Lookup) (spent : ℕ) (old new : State) : Type 0 where
  pub leads : (first : List moves.Goal) → Leads l (frames_of old.frames) first (goals_of old.goals) → Leads l (frames_of new.frames) first (goals_of new.goals)
  pub room : (room : ℕ) → HaveRoom l (spent + room) (goals_of old.goals) → HaveRoom l room (goals_of new.goals)
