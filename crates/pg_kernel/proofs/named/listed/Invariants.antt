use Rattle.std.proofs.Common.{◌≡◌, ◌++◌}
use Rattle.pg_kernel.proofs.named.listed.Given as goal

abbrev pub invariant-loop-k : goal.invariant-loop-k
invariant-loop-k l = l.numbers ++ l.k-iterator ≡ l.set.keys
