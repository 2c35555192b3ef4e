use Rattle.std.proofs.Common.{◌<◌, ℕ}
use Rattle.std.specs.Prelude.{IsTrue}
use Rattle.pg_worlds.specs.Flags.{flag}
use Rattle.pg_worlds.specs.Course.{IsBefore}
use Rattle.pg_worlds.proofs.course.Course.first_missing.Given as goal

-- of the levels that were passed, those that stand before are won
abbrev pub invariant-loop-at : goal.invariant-loop-at
invariant-loop-at l = (k : ℕ) → k < l.at → IsBefore l.self l.level.0 k → IsTrue (flag l.won k)
