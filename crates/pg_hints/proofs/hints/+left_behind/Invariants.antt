use Rattle.std.proofs.Common.{◌≡◌, drop, map}
use Rattle.pg_script.specs.View.{entry}
use Rattle.pg_script.specs.Data.{entries_of}
use Rattle.pg_gametext.specs.Checks.{hints_in_all}
use Rattle.pg_hints.specs.Counts.{left_of}
use Rattle.pg_hints.proofs.hints.+left_behind.Given as goal

abbrev pub invariant-left_behind_all-loop-item : goal.invariant-left_behind_all-loop-item
invariant-left_behind_all-loop-item l =
    left_of l.left (hints_in_all (entries_of (map entry (drop l.item-index l.items)))) ≡ left_of l.room (hints_in_all (entries_of (map entry l.items)))
