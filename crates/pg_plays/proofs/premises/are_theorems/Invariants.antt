use Rattle.std.specs.List.{AllWithin}
use Rattle.pg_terms.specs.View.{formulas}
use Rattle.pg_arith.specs.View.{signature}
use Rattle.pg_plays.specs.Usable.{IsUsableTheorem}
use Rattle.pg_plays.proofs.premises.are_theorems.Given as goal

abbrev pub invariant-loop-id : goal.invariant-loop-id
invariant-loop-id l = AllWithin (IsUsableTheorem (signature l.sig)) (formulas l.theorems) 0 l.id
