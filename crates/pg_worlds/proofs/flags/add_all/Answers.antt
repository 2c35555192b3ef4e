use Rattle.std.proofs.Common.{◌<◌, length, arith}
use Rattle.pg_worlds.proofs.Flagged.{room_at, add_step}
use Rattle.pg_worlds.proofs.flags.add_all.Goals as goal

pub bounds-flags-number : goal.bounds-flags-number
bounds-flags-number g c =
    let room : c.number.result < length c.args.flags.now = room_at g.T.Numbered.number_of c.args.names.now c.loop-name.name-index _ _ _ (omega arith) c.name-item.is c.number.ensures c.requires in
    omega arith

pub loop-name-preserved : goal.loop-name-preserved
loop-name-preserved g c =
    let room : c.number.result < length c.args.flags.now = room_at g.T.Numbered.number_of c.args.names.now c.loop-name.name-index _ _ _ (omega arith) c.name-item.is c.number.ensures c.requires in
    add_step g.T.Numbered.number_of c.args.names.now c.loop-name.name-index _ _ c.args.flags.now c.loop-name.flags (omega arith) c.name-item.is c.number.ensures (omega arith) c.loop-name.invariant
