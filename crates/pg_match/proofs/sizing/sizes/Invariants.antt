use Rattle.std.proofs.Common.{◌≡◌, map, take}
use Rattle.pg_terms.specs.View.{terms}
use Rattle.pg_match.specs.Sizes.{size_of}
use Rattle.pg_match.proofs.sizing.sizes.Given as goal

abbrev pub invariant-loop-value : goal.invariant-loop-value
invariant-loop-value l = l.sizes ≡ map size_of (terms (take l.value-index l.values))
