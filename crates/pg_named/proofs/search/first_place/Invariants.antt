use Rattle.std.proofs.Common.{◌≡◌, drop, map}
use Rattle.pg_gametext.specs.Before.{first_place}
use Rattle.pg_named.specs.View.{given}
use Rattle.pg_named.specs.Found.{kept, sooner_place}
use Rattle.pg_named.proofs.search.first_place.Given as goal

abbrev pub invariant-loop-entry : goal.invariant-loop-entry
invariant-loop-entry l =
    sooner_place l.first (first_place l.name (kept l.declared (map given (drop l.entry-index l.entries)))) ≡ first_place l.name (kept l.declared (map given l.entries))
