use Rattle.std.proofs.Common.{◌≡◌, drop}
use Rattle.pg_keep.specs.Keeping.{fault_at}
use Rattle.pg_keep.proofs.memory.fault_of.Given as goal

abbrev pub invariant-loop-call : goal.invariant-loop-call
invariant-loop-call l = fault_at (drop l.call-index l.failing) l.number ≡ fault_at l.failing l.number
