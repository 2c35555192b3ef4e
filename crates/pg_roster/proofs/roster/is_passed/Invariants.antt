use Rattle.std.proofs.Common.{◌≡◌, map, drop}
use Rattle.std.specs.List.{list_any}
use Rattle.pg_roster.specs.Roster.{has_pass, member}
use Rattle.pg_roster.proofs.roster.is_passed.Given as goal

abbrev pub invariant-loop-player : goal.invariant-loop-player
invariant-loop-player l =
    list_any (has_pass l.pass) (map member (drop l.player-index l.players)) ≡ list_any (has_pass l.pass) (map member l.players)
