use Rattle.std.proofs.Common.{◌≡◌, ◌≤◌, length}
use Rattle.pg_worlds.specs.Flags.{flag}
use Rattle.pg_worlds.proofs.Reached.{IsSpread}
use Rattle.pg_worlds.proofs.course.Course.needed.Given as goal

-- the worlds from `at` on have been looked at
abbrev pub invariant-loop-at : goal.invariant-loop-at
invariant-loop-at l =
    IsSpread l.self-inside.graph l.self-inside.order.items l.world l.at (flag l.needed) × (length l.needed ≡ 64) × (l.at ≤ length l.self-inside.order.items)
