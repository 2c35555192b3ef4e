use Rattle.std.proofs.Common.{◌≡◌, take}
use Rattle.pg_worlds.specs.Worlds.{world_of_each}
use Rattle.pg_worlds.proofs.graph.Graph.world_of_each.Given as goal

abbrev pub invariant-loop-world : goal.invariant-loop-world
invariant-loop-world l = l.worlds.items ≡ world_of_each l.self (take l.world-index l.order)
