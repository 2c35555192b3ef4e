-- The formula that an expression gives, and the cause by which it stops an act that it gives none.
use Rattle.std.specs.Prelude.{Option, Some, None}
use Rattle.pg_logic.specs.Tree.{Fm}
use Rattle.pg_terms.specs.View.{formula}
use Rattle.pg_moves.specs.Causes as causes
use Rattle.pg_moves.specs.Expressions as moves
use Rattle.pg_goal.specs.declared.expression.Given.{Given}
use Rattle.pg_goal.specs.declared.expression.ExprFault.{ExprFault}
use Rattle.pg_goal.specs.declared.expression.ExprFault.TheVariants.{NoSuchName, Locked, WrongArgument, TooManyArguments, TooLarge, OutOfMemory}
use Rattle.pg_reduction.specs.declared.cause.ActFault.{ActFault}
use Rattle.pg_reduction.specs.declared.cause.ActFault.TheVariants as act
use Rattle.pg_reduction.specs.View.{cause_of}

-- the formula
abbrev pub said : Given → Fm
said x = formula x.formula

-- ---- inside

-- the cause of a fault; want of memory is none
abbrev pub fault_cause : ExprFault → Option causes.Cause
fault_cause (NoSuchName at) = Some (moves.cause_of (moves.NoSuchName at))
fault_cause (Locked at theorem) = Some (moves.cause_of (moves.Locked at theorem))
fault_cause (WrongArgument at) = Some (moves.cause_of (moves.WrongArgument at))
fault_cause (TooManyArguments at) = Some (moves.cause_of (moves.TooManyArguments at))
fault_cause (TooLarge size) = Some (moves.cause_of (moves.TooLarge size))
fault_cause OutOfMemory = None

-- the cause by which an act stops; want of memory is none
abbrev pub stop_cause : ActFault → Option causes.Cause
stop_cause (act.Stop c) = Some (cause_of c)
stop_cause act.OutOfMemory = None
