use Rattle.std.proofs.Common.{◌≡◌, ◌+◌, ◌-◌, ◌^◌, ℕ, drop, map}
use Rattle.std.specs.Prelude.{min, max}
use Rattle.pg_gametext.specs.Reading.{binder}
use Rattle.pg_states.specs.Sizes.{height_under}
use Rattle.pg_states.proofs.sizes.height_in.Given as goal

abbrev pub invariant-loop-binder : goal.invariant-loop-binder
invariant-loop-binder l =
    (n : ℕ) → min (max l.reached (l.depth + height_under (map binder (drop l.binder-index l.binders)) n)) (2 ^ 32 - 1) ≡ min (height_under (map binder l.binders) n) (2 ^ 32 - 1)
