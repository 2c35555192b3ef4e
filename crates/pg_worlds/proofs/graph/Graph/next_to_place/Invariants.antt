use Rattle.std.proofs.Common.{◌≡◌, ◌<◌, ℕ, false}
use Rattle.pg_worlds.specs.Flags.{flag}
use Rattle.pg_worlds.specs.Worlds.{can_be_placed}
use Rattle.pg_worlds.proofs.graph.Graph.next_to_place.Given as goal

-- no world that was passed can be placed
abbrev pub invariant-loop-world : goal.invariant-loop-world
invariant-loop-world l = (v : ℕ) → v < l.world → can_be_placed l.self (flag l.placed) v ≡ false
