use Rattle.std.proofs.Common.{◌≡◌, drop, map}
use Rattle.pg_script.specs.View.{words}
use Rattle.pg_gametext.specs.Before.{first_place, bound_name}
use Rattle.pg_named.specs.Found.{sooner_place}
use Rattle.pg_named.proofs.bound.first_among.Given as goal

abbrev pub invariant-loop-token : goal.invariant-loop-token
invariant-loop-token l =
    sooner_place l.first (first_place l.name (map bound_name (words (drop l.token-index l.tokens)))) ≡ first_place l.name (map bound_name (words l.tokens))
