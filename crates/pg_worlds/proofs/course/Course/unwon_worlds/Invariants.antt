use Rattle.std.proofs.Common.{ℕ}
use Rattle.std.specs.Prelude.{◌↔◌, IsTrue}
use Rattle.pg_worlds.specs.Flags.{flag}
use Rattle.pg_worlds.specs.Course.{HasUnwon}
use Rattle.pg_worlds.proofs.course.Course.unwon_worlds.Given as goal

-- of the levels that were passed, those that aren't won have their world's flag
abbrev pub invariant-loop-at : goal.invariant-loop-at
invariant-loop-at l = (w : ℕ) → IsTrue (flag l.unwon w) ↔ HasUnwon l.self l.won l.at w
