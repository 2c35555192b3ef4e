use Rattle.std.proofs.Common.{◌≡◌, take}
use Rattle.pg_match.specs.View.{values}
use Rattle.pg_match.specs.Walks.{lent}
use Rattle.pg_match.proofs.matching.copies.Given as goal

abbrev pub invariant-loop-value : goal.invariant-loop-value
invariant-loop-value l = values l.values ≡ lent (take l.value-index l.stood)
