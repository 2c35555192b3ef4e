use Rattle.std.proofs.Common.{arith, ◌<◌}
use Rattle.pg_worlds.proofs.Placing.{has_place}
use Rattle.pg_worlds.proofs.graph.from_first.Goals as goal

pub unreachable-requires : goal.unreachable-requires
unreachable-requires c =
    let r = has_place c.args.walk.now c.args.world c.requires in
    let in' : r.0 < c.loop-i.i = omega (arith, r.1) in
    c.loop-i.invariant r.0 in' r.2
