-- What the calls answer, against the definitions. Only want of memory is free.
use Rattle.std.specs.Prelude.{ℕ, ◌≡◌, Option, Some, None, Result, Ok, Err}
use Rattle.pg_logic.specs.Declarations.{Name}
use Rattle.pg_terms.specs.View.{formula}
use Rattle.pg_moves.specs.Causes as causes
use Rattle.pg_moves.specs.Causes.{Tried}
use Rattle.pg_moves.specs.Expressions as moves
use Rattle.pg_goal.specs.declared.lookup.NameFault.{NameFault}
use Rattle.pg_goal.specs.declared.lookup.NameFault.TheVariants as names
use Rattle.pg_goal.specs.declared.expression.Given.{Given}
use Rattle.pg_goal.specs.declared.expression.ExprFault.{ExprFault}
use Rattle.pg_goal.specs.declared.expression.ExprFault.TheVariants.{NoSuchName, Locked, WrongArgument, TooManyArguments, TooLarge, OutOfMemory}

-- the name is the defined one, or the cause is
abbrev pub IsNamed : Tried Name → Result Name NameFault → Type 0
IsNamed want (Ok x) = want ≡ Ok x
IsNamed want (Err (names.NameTaken x)) = want ≡ Err (causes.NameTaken x)
IsNamed want (Err names.OutOfMemory) = Unit {0}

-- the formula is the defined one, or the fault is
abbrev pub Gives : moves.Given → Result Given ExprFault → Type 0
Gives want (Ok x) = want ≡ Ok (formula x.formula)
Gives want (Err (NoSuchName at)) = want ≡ Err (moves.NoSuchName at)
Gives want (Err (Locked at theorem)) = want ≡ Err (moves.Locked at theorem)
Gives want (Err (WrongArgument at)) = want ≡ Err (moves.WrongArgument at)
Gives want (Err (TooManyArguments at)) = want ≡ Err (moves.TooManyArguments at)
Gives want (Err (TooLarge size)) = want ≡ Err (moves.TooLarge size)
Gives want (Err OutOfMemory) = Unit {0}

-- the argument that begins at this byte is what it is read as, or the wrong one where it is nothing
abbrev pub IsRead : {X Y : Type 0} → (X → Y) → Option Y → (at : ℕ) → Result X ExprFault → Type 0
IsRead view want at (Ok x) = want ≡ Some (view x)
IsRead view want at (Err (WrongArgument here)) = (want ≡ None) × (here ≡ at)
IsRead view want at (Err OutOfMemory) = Unit {0}
IsRead view want at (Err _) = ⊥
