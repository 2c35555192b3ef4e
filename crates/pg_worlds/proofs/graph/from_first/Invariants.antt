use Rattle.std.proofs.Common.{◌≡◌, ◌<◌, ℕ, slice_index}
use Rattle.pg_worlds.proofs.graph.from_first.Given as goal

-- none of those that were passed is the world
abbrev pub invariant-loop-i : goal.invariant-loop-i
invariant-loop-i l = (k : ℕ) → k < l.i → slice_index l.walk k ≡ l.world → ⊥
