use Rattle.std.proofs.Common.{◌≡◌, ◌<◌, ℕ, set, true, sym, subst, arith, length}
use Rattle.pg_worlds.specs.Flags.{flag, has}
use Rattle.pg_worlds.specs.Worlds.{IsFirstEachTime}
use Rattle.pg_worlds.proofs.Placing.{fewer_down, grown, was_left}
use Rattle.pg_worlds.proofs.graph.Graph.place_worlds.Goals as goal

pub bounds-placed-world : goal.bounds-placed-world
bounds-placed-world c = omega (arith, c.count.ensures.graph.at_most, c.in-Some.ensures.0)

pub loop-world-smaller : goal.loop-world-smaller
loop-world-smaller c =
    let l : c.in-Some.world < length c.loop-world.placed = omega (arith, c.count.ensures.graph.at_most, c.in-Some.ensures.0) in
    fewer_down c.loop-world.placed c.in-Some.world l (was_left c.args.self.now (flag c.loop-world.placed) c.in-Some.world c.in-Some.ensures.1)

pub loop-world-preserved : goal.loop-world-preserved
loop-world-preserved c =
    let l : c.in-Some.world < length c.loop-world.placed = omega (arith, c.count.ensures.graph.at_most, c.in-Some.ensures.0) in
    subst (λ xs. IsFirstEachTime c.args.self.now xs × ((k : ℕ) → flag (set c.loop-world.placed c.in-Some.world true) k ≡ has xs k)) (sym c.in_ok-push.ensures.items)
    (grown c.args.self.now c.loop-world.placed c.loop-world.order.items c.in-Some.world l c.loop-world.invariant c.in-Some.ensures)
