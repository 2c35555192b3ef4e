-- The causes that the Rust type stands for.
use Rattle.std.specs.Prelude.{ℕ, List}
use Rattle.pg_moves.specs.Causes as moves
use Rattle.pg_terms.specs.View.{term, formula}
use Rattle.pg_reduction.specs.declared.cause.Measure.{Measure}
use Rattle.pg_reduction.specs.declared.cause.Measure.TheVariants as measures
use Rattle.pg_reduction.specs.declared.cause.Cause.{Cause}
use Rattle.pg_reduction.specs.declared.cause.Cause.TheVariants.{Syntax, NoSuchTactic, LockedTactic, NoSuchName, LockedTheorem, SidesDiffer, WrongShape, NoInstance, Undetermined, NameTaken, TooLarge, NoGoal, WrongArgument, NotSame, LeftOpen, TooMany, BarePattern}

-- what is too large
abbrev pub measure_of : Measure → moves.Measure
measure_of measures.Nodes = moves.Nodes
measure_of measures.Height = moves.Height
measure_of measures.Variables = moves.Variables
measure_of measures.Hypotheses = moves.Hypotheses
measure_of measures.State = moves.State

-- a cause
abbrev pub cause_of : Cause → moves.Cause
cause_of (Syntax at) = moves.Syntax at
cause_of (NoSuchTactic name) = moves.NoSuchTactic name
cause_of (LockedTactic name) = moves.LockedTactic name
cause_of (NoSuchName at) = moves.NoSuchName at
cause_of (LockedTheorem theorem) = moves.LockedTheorem theorem
cause_of (SidesDiffer left right) = moves.SidesDiffer (term left) (term right)
cause_of WrongShape = moves.WrongShape
cause_of NoInstance = moves.NoInstance
cause_of (Undetermined binder) = moves.Undetermined binder
cause_of (NameTaken name) = moves.NameTaken name
cause_of (TooLarge measure reached) = moves.TooLarge (measure_of measure) reached
cause_of NoGoal = moves.NoGoal
cause_of (WrongArgument at) = moves.WrongArgument at
cause_of (NotSame found) = moves.NotSame (formula found)
cause_of (LeftOpen count) = moves.LeftOpen count
cause_of (TooMany count) = moves.TooMany count
cause_of BarePattern = moves.BarePattern

-- a name stands for itself
abbrev pub itself : List ℕ → List ℕ
itself x = x

-- one value, whatever is given
abbrev pub always : {X Y : Type 0} → Y → X → Y
always y x = y
