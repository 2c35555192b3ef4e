use Rattle.std.proofs.Common.{◌≡◌, ◌≤◌, [], ◌++◌, length, map, drop}
use Rattle.std.specs.List.{filter_map}
use Rattle.csv.specs.Records.{fields_of}
use Rattle.pg_roster.specs.Roster.{first_fault, member, member_of}
use Rattle.pg_roster.proofs.roster.read_rows.Given as goal

abbrev pub invariant-loop-row : goal.invariant-loop-row
invariant-loop-row l =
    (length l.players.items ≤ 256)
    × (filter_map member_of (map fields_of l.rows) ≡ map member l.players.items ++ filter_map member_of (map fields_of (drop l.row-index l.rows)))
    × (first_fault (map member l.players.items) (map fields_of (drop l.row-index l.rows)) ≡ first_fault [] (map fields_of l.rows))
