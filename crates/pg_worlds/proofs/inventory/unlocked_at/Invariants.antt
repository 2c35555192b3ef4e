use Rattle.std.proofs.Common.{◌≡◌, take}
use Rattle.pg_worlds.specs.Inventory.{inventory, unlocked_by_all, won_levels}
use Rattle.pg_worlds.proofs.inventory.unlocked_at.Given as goal

-- what the won ones unlock of the levels that were passed
abbrev pub invariant-loop-at : goal.invariant-loop-at
invariant-loop-at l = inventory l.unlocked ≡ unlocked_by_all (won_levels (take l.at l.course.levels) (take l.at l.won))
