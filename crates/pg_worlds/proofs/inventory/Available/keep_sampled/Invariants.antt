use Rattle.std.proofs.Common.{◌≡◌, ◌&&◌, not, ℕ, take}
use Rattle.std.specs.Prelude.{◌==◌}
use Rattle.std.specs.List.{list_any}
use Rattle.pg_worlds.specs.Flags.{flag}
use Rattle.pg_worlds.specs.Course.{Level}
use Rattle.pg_worlds.proofs.inventory.Available.keep_sampled.Given as goal

-- the statements without a sample of the levels that were passed are away
abbrev pub invariant-loop-at : goal.invariant-loop-at
invariant-loop-at l =
    ((k : ℕ) → flag l.self-inside.theorems.items k ≡ (flag l.initial.self-inside.theorems.items k && not (list_any (λ (v : Level). not v.sampled && (v.own == k)) (take l.at l.course.levels))))
    × (l.self-inside.tactics ≡ l.initial.self-inside.tactics)
