-- What becomes of a fault of reading.
use Rattle.std.specs.Prelude.{ℕ, ◌≡◌}
use Rattle.pg_syntax.specs.declared.fault.SyntaxFault.{SyntaxFault}
use Rattle.pg_syntax.specs.declared.fault.SyntaxFault.TheVariants.{OutOfMemory}
use Rattle.pg_reduction.specs.declared.cause.ActFault.{ActFault}
use Rattle.pg_reduction.specs.declared.cause.ActFault.TheVariants as act
use Rattle.pg_reduction.specs.declared.cause.Cause.TheVariants.{WrongArgument}

-- the argument at this place is none of the kind that is wanted, or there was no memory
abbrev pub IsUnread : ℕ → SyntaxFault → ActFault → Type 0
IsUnread at OutOfMemory e = e ≡ act.OutOfMemory
IsUnread at _ e = e ≡ act.Stop (WrongArgument at)
