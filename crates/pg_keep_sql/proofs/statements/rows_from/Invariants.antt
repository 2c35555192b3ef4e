use Rattle.std.proofs.Common.{◌≡◌, map, take}
use Rattle.pg_keep.specs.Rows.{entry_of}
use Rattle.pg_keep_sql.specs.Statements.{values, with_player}
use Rattle.pg_keep_sql.proofs.statements.rows_from.Given as goal

abbrev pub invariant-loop-row : goal.invariant-loop-row
invariant-loop-row l =
    map (with_player l.player) (take l.row-index l.shown) ≡ map values (map entry_of l.found.items)
