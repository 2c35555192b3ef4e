use Rattle.std.proofs.Common.{◌≡◌, ◌≤◌, map, drop, length}
use Rattle.pg_keep.specs.Rows.{entry_of, rows_of}
use Rattle.pg_keep.proofs.memory.rows_of_player.Given as goal

abbrev pub invariant-loop-left : goal.invariant-loop-left
invariant-loop-left l =
    (l.left ≤ length l.rows) × (map entry_of l.found.items ≡ rows_of l.player (map entry_of (drop l.left l.rows)))

abbrev pub decreases-loop-left : goal.decreases-loop-left
decreases-loop-left l = l.left
