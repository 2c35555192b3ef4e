use Rattle.std.proofs.Common.{◌≡◌, ◌-◌, ◌+◌, ◌*◌, length, map}
use Rattle.pg_script.specs.Blocks.{block_at, entries_at}
use Rattle.pg_script.specs.Joined.{joined_entries}
use Rattle.pg_script.specs.View.{words, entry}
use Rattle.pg_script.proofs.block.+block.Given as goal

abbrev pub invariant-items_at-loop-turn : goal.invariant-items_at-loop-turn
invariant-items_at-loop-turn l =
    joined_entries (map entry l.items) (entries_at (block_at l.budget l.whole.sample l.whole.end) l.whole.sample l.column l.whole.end (length l.tokens - l._turn) l.room_left (words l.left.tokens.now))
    ≡ entries_at (block_at l.budget l.whole.sample l.whole.end) l.whole.sample l.column l.whole.end (length l.tokens) l.room (words l.tokens)

abbrev pub decreases-inner_at : goal.decreases-inner_at
decreases-inner_at l = 4 * l.budget + 1

abbrev pub decreases-item_at : goal.decreases-item_at
decreases-item_at l = 4 * l.budget + 2

abbrev pub decreases-items_at : goal.decreases-items_at
decreases-items_at l = 4 * l.budget + 3

abbrev pub decreases-block_at : goal.decreases-block_at
decreases-block_at l = 4 * l.budget
