use Rattle.std.proofs.Common.{◌≡◌, ◌+◌, ◌*◌, take, drop, map}
use Rattle.pg_script.specs.Data.{entries_of}
use Rattle.pg_script.specs.View.{entry}
use Rattle.pg_moves.specs.Runs.{run_items, items_in, items_among, parts_among}
use Rattle.pg_goal.specs.View.{lookup_of}
use Rattle.pg_runs.specs.State.{goals_of, Carries}
use Rattle.pg_runs.proofs.running.+item.Given as goal

abbrev pub invariant-items-loop-it : goal.invariant-items-loop-it
invariant-items-loop-it m l =
    (run_items (lookup_of l.lookup) (entries_of (map entry l.items)) l.first (goals_of l.initial.state.goals)
    ≡ run_items (lookup_of l.lookup) (entries_of (map entry (drop l.it-index l.items))) l.number (goals_of l.state.goals))
    × Carries (lookup_of l.lookup) (parts_among (entries_of (map entry (take l.it-index l.items)))) l.initial.state l.state
    × (l.number ≡ l.first + items_among (entries_of (map entry (take l.it-index l.items))))

abbrev pub decreases-items : goal.decreases-items
decreases-items m l = 3 * items_among (entries_of (map entry l.items.now)) + 1

abbrev pub decreases-focus : goal.decreases-focus
decreases-focus m l = 3 * items_among (entries_of (map entry l.block.now)) + 2

abbrev pub decreases-branch : goal.decreases-branch
decreases-branch m l = 3 * items_among (entries_of (map entry l.block.now)) + 2

abbrev pub decreases-item : goal.decreases-item
decreases-item m l = 3 * items_in (entry l.item.now)
