use Rattle.std.proofs.Common.{◌≡◌, take}
use Rattle.pg_arith.proofs.lookups.copied_predicates.Given as goal

abbrev pub invariant-loop-p : goal.invariant-loop-p
invariant-loop-p l = l.copies ≡ take l.p-index l.declared
