use Rattle.std.proofs.Common.{◌≡◌, ◌+◌, ◌-◌, ◌^◌, ℕ, drop, map}
use Rattle.std.specs.Prelude.{min}
use Rattle.pg_gametext.specs.Reading.{binder}
use Rattle.pg_states.specs.Sizes.{nodes_under}
use Rattle.pg_states.proofs.sizes.nodes_in.Given as goal

abbrev pub invariant-loop-binder : goal.invariant-loop-binder
invariant-loop-binder l =
    (n : ℕ) → min (l.sum + nodes_under (map binder (drop l.binder-index l.binders)) n) (2 ^ 64 - 1) ≡ min (nodes_under (map binder l.binders) n) (2 ^ 64 - 1)
