use Rattle.std.proofs.Common.{◌≡◌, ◌<◌, ℕ, vec_len}
use Rattle.std.specs.Prelude.{◌↔◌, IsTrue}
use Rattle.pg_worlds.specs.Flags.{flag}
use Rattle.pg_worlds.specs.Course.{IsBefore}
use Rattle.pg_worlds.proofs.course.Course.least_won.Given as goal

-- each level that was passed has its flag, which stands where the level stands before
abbrev pub invariant-loop-at : goal.invariant-loop-at
invariant-loop-at l = (vec_len l.won ≡ l.at) × ((k : ℕ) → k < l.at → IsTrue (flag l.won.items k) ↔ IsBefore l.self l.level.0 k)
