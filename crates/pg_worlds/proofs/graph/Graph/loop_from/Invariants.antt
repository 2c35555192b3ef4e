use Rattle.std.proofs.Common.{◌≡◌, ◌<◌, ℕ, false, length}
use Rattle.pg_worlds.specs.Flags.{flag, has}
use Rattle.pg_worlds.specs.Worlds.{world_count}
use Rattle.pg_worlds.proofs.Rounds.{IsWalk}
use Rattle.pg_worlds.proofs.Placing.{down}
use Rattle.pg_worlds.proofs.graph.Graph.loop_from.Given as goal

-- the walk so far, with the flags of the worlds that it met, and the next world, which is not placed
abbrev pub invariant-loop-met : goal.invariant-loop-met
invariant-loop-met l =
    IsWalk l.self (flag l.placed) l.start l.walk.items l.world
    × ((k : ℕ) → flag l.met k ≡ has l.walk.items k)
    × (length l.met ≡ 64)
    × (l.world < world_count l.self)
    × (flag l.placed l.world ≡ false)

abbrev pub decreases-loop-met : goal.decreases-loop-met
decreases-loop-met l = down l.met
