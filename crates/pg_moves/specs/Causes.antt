-- Why a part of a move, or a script, stops. Where a place is told it is that of a token.
use Rattle.std.specs.Prelude.{ℕ, Bool, Option, Some, None, Result, Ok, Err, if◌then◌else◌}
use Rattle.pg_logic.specs.Tree.{Tm, Fm}
use Rattle.pg_logic.specs.Declarations.{Name}

-- what is too large: a formula by its nodes or its height, a goal by its live variables or hypotheses, a block by all
-- its nodes
pub data Measure : Type 0 where
  Nodes : Measure
  Height : Measure
  Variables : Measure
  Hypotheses : Measure
  State : Measure

-- The causes, printed as S1 to S17 in this order, each with what it tells: a place, a word or a name, a theorem by its
-- number, two sides, a measure and what was reached, a formula, a count.
pub data Cause : Type 0 where
  Syntax : (at : ℕ) → Cause
  NoSuchTactic : (word : Name) → Cause
  LockedTactic : (word : Name) → Cause
  NoSuchName : (at : ℕ) → Cause
  LockedTheorem : (theorem : ℕ) → Cause
  SidesDiffer : (lhs rhs : Tm) → Cause
  WrongShape : Cause
  NoInstance : Cause
  Undetermined : (binder : Name) → Cause
  NameTaken : (name : Name) → Cause
  TooLarge : Measure → (reached : ℕ) → Cause
  NoGoal : Cause
  WrongArgument : (at : ℕ) → Cause
  NotSame : (found : Fm) → Cause
  LeftOpen : (count : ℕ) → Cause
  TooMany : (count : ℕ) → Cause
  BarePattern : Cause

-- what a part makes, or why it stops
abbrev pub Tried : Type 0 → Type 0
Tried X = Result X Cause

-- what comes next, where nothing has stopped
abbrev pub and_then : {X Y E : Type 0} → Result X E → (X → Result Y E) → Result Y E
and_then (Ok x) more = more x
and_then (Err e) more = Err e

-- what is there, or else a cause
abbrev pub wanted : {X E : Type 0} → Option X → E → Result X E
wanted None e = Err e
wanted (Some x) e = Ok x

-- x where the test is true, or else a cause
abbrev pub where_true : {X E : Type 0} → Bool → X → E → Result X E
where_true b x e = if b then Ok x else Err e

-- x where nothing is wrong
abbrev pub unless_wrong : {X E : Type 0} → Option E → X → Result X E
unless_wrong None x = Ok x
unless_wrong (Some e) x = Err e
