use Rattle.std.proofs.Common.{◌≡◌, true, drop, take, map, reverse}
use Rattle.pg_script.specs.View.{words}
use Rattle.pg_gametext.specs.Faults.{least}
use Rattle.pg_gametext.specs.Before.{bound_name}
use Rattle.pg_gametext.specs.Checks.{differing_faults}
use Rattle.pg_named.specs.View.{given}
use Rattle.pg_named.specs.Found.{kept}
use Rattle.pg_named.specs.Bound.{Rises, over}
use Rattle.pg_named.proofs.bound.first_clash.Given as goal

abbrev pub invariant-loop-count : goal.invariant-loop-count
invariant-loop-count l =
    (least (differing_faults (over (kept true (map given (reverse l.table))) (map bound_name (take l.count (words l.tokens)))) (map bound_name (drop l.count (words l.tokens))))
    ≡ least (differing_faults (kept true (map given (reverse l.table))) (map bound_name (words l.tokens))))
    × Rises (drop l.count (words l.tokens))
