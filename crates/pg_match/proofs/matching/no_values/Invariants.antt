use Rattle.std.proofs.Common.{◌≡◌}
use Rattle.pg_match.specs.Walks.{lent, nones}
use Rattle.pg_match.proofs.matching.no_values.Given as goal

abbrev pub invariant-loop-hole : goal.invariant-loop-hole
invariant-loop-hole l = lent l.values.items ≡ nones l.hole
