use Rattle.std.proofs.Common.{◌≡◌, map, drop}
use Rattle.std.specs.List.{list_any}
use Rattle.pg_roster.specs.Roster.{has_name, member}
use Rattle.pg_roster.proofs.roster.is_named.Given as goal

abbrev pub invariant-loop-player : goal.invariant-loop-player
invariant-loop-player l =
    list_any (has_name l.name) (map member (drop l.player-index l.players)) ≡ list_any (has_name l.name) (map member l.players)
