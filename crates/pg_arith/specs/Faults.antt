-- What is told where a declaration is refused.
use Rattle.std.specs.Prelude.{◌≡◌, Option, option_map, Some}
use Rattle.pg_logic.specs.Declarations.{Refusal, name_taken, uses_later, arity_over, loose_variable}
use Rattle.pg_arith.specs.declared.declaring.DeclareFault.{DeclareFault}
use Rattle.pg_arith.specs.declared.declaring.DeclareFault.TheVariants.{NameTaken, UsesLater, ArityOver, LooseVariable, OutOfMemory}

abbrev pub fault : Refusal → DeclareFault
fault name_taken = NameTaken
fault (uses_later id) = UsesLater id
fault (arity_over n) = ArityOver n
fault (loose_variable id) = LooseVariable id

-- the fault is the refusal, or want of memory
abbrev pub IsFaultOf : Option Refusal → DeclareFault → Type 0
IsFaultOf refusal OutOfMemory = Unit {0}
IsFaultOf refusal e = option_map fault refusal ≡ Some e
