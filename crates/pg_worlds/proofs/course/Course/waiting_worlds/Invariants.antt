use Rattle.std.proofs.Common.{◌≡◌, length}
use Rattle.pg_worlds.specs.Flags.{flag}
use Rattle.pg_worlds.proofs.Waiting.{IsSeen}
use Rattle.pg_worlds.proofs.course.Course.waiting_worlds.Given as goal

-- the worlds before `at` have been looked at
abbrev pub invariant-loop-at : goal.invariant-loop-at
invariant-loop-at l = IsSeen l.self-inside.graph l.self-inside.order.items (flag l.unwon) l.at (flag l.waiting) × (length l.waiting ≡ 64)
