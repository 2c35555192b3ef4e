use Rattle.std.proofs.Common.{◌≡◌, ℕ}
use Rattle.pg_worlds.specs.Flags.{flag, has}
use Rattle.pg_worlds.specs.Worlds.{IsFirstEachTime}
use Rattle.pg_worlds.proofs.Placing.{down}
use Rattle.pg_worlds.proofs.graph.Graph.place_worlds.Given as goal

-- each world so far was the first that could be placed, and just these have their flag
abbrev pub invariant-loop-world : goal.invariant-loop-world
invariant-loop-world l = IsFirstEachTime l.self l.order.items × ((k : ℕ) → flag l.placed k ≡ has l.order.items k)

abbrev pub decreases-loop-world : goal.decreases-loop-world
decreases-loop-world l = down l.placed
