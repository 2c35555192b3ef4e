use Rattle.std.proofs.Common.{◌≡◌}
use Rattle.pg_match.proofs.Fixing.{Fixed}
use Rattle.pg_match.proofs.found.determined.Given as goal

abbrev pub invariant-loop-value : goal.invariant-loop-value
invariant-loop-value l = record { count : l.binder ≡ l.value-index; so_far : Fixed l.value-items l.value-index l.terms }
