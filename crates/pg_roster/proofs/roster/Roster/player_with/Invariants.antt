use Rattle.std.proofs.Common.{◌≡◌, map, drop}
use Rattle.pg_roster.specs.Roster.{member, member_with}
use Rattle.pg_roster.proofs.roster.Roster.player_with.Given as goal

abbrev pub invariant-loop-player : goal.invariant-loop-player
invariant-loop-player l = member_with l.pass (map member (drop l.player-index l.player-items)) ≡ member_with l.pass l.self
