use Rattle.std.proofs.Common.{◌≡◌, take}
use Rattle.pg_arith.proofs.lookups.copied_functions.Given as goal

abbrev pub invariant-loop-f : goal.invariant-loop-f
invariant-loop-f l = l.copies ≡ take l.f-index l.declared
