use Rattle.std.proofs.Common.{◌≡◌, ◌<◌, ℕ, vec_len}
use Rattle.std.specs.Prelude.{◌↔◌, ◌⊎◌, IsTrue}
use Rattle.pg_worlds.specs.Flags.{flag}
use Rattle.pg_worlds.specs.Course.{HasUnwon, IsOpen, IsWaiting}
use Rattle.pg_worlds.proofs.course.Course.open_levels.Given as goal

-- each level that was passed has its flag, and closed are the worlds that wait or had a level that isn't won
abbrev pub invariant-loop-at : goal.invariant-loop-at
invariant-loop-at l =
    (vec_len l.flags ≡ l.at)
    × ((k : ℕ) → k < l.at → IsTrue (flag l.flags.items k) ↔ IsOpen l.self l.won k)
    × ((w : ℕ) → IsTrue (flag l.closed w) ↔ (IsWaiting l.self l.won w ⊎ HasUnwon l.self l.won l.at w))
