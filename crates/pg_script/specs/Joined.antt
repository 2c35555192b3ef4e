-- What was read before, in front of what is read.
use Rattle.std.specs.Prelude.{◌≡◌, ℕ, List, ◌++◌, Option, Some, None, Result, Ok, Err}
use Rattle.std.specs.Borrow.{Bor}
use Rattle.pg_base.specs.declared.token.Token.{Token}
use Rattle.pg_base.specs.Tokens.{Word}
use Rattle.pg_script.specs.declared.fault.ScriptFault.{ScriptFault}
use Rattle.pg_script.specs.declared.fault.ScriptFault.TheVariants.{OutOfMemory}
use Rattle.pg_script.specs.Blocks.{ReadEntries}
use Rattle.pg_script.specs.Data.{Part, Entry}
use Rattle.pg_script.specs.Lines.{Read, args_from}
use Rattle.pg_script.specs.View.{words}

abbrev pub joined : {V : Type 0} → List V → Read (List V × List Word) → Read (List V × List Word)
joined xs (Ok (ys, rest)) = Ok (xs ++ ys, rest)
joined xs (Err e) = Err e

abbrev pub appended : {V : Type 0} → List V → Read (List V) → Read (List V)
appended xs (Ok ys) = Ok (xs ++ ys)
appended xs (Err e) = Err e

-- An argument was put behind the others and is read no more, or none was left, or it has a fault.
abbrev pub TakesArgument : (end depth : ℕ) → List Word → (old new : List Part) → Result (Option (Bor (List Token))) ScriptFault → Type 0
TakesArgument end depth ws old new (Ok (Some rest)) = joined new (args_from end depth 0 (words rest.now)) ≡ joined old (args_from end depth 0 ws)
TakesArgument end depth ws old new (Ok None) = Ok (new, ws) ≡ joined old (args_from end depth 0 ws)
TakesArgument end depth ws old new (Err e) = (e ≡ OutOfMemory → ⊥) → args_from end depth 0 ws ≡ Err e

abbrev pub joined_entries : List Entry → ReadEntries → ReadEntries
joined_entries xs (Ok (es, room, rest)) = Ok (xs ++ es, room, rest)
joined_entries xs (Err e) = Err e
