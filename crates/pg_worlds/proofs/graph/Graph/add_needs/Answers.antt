use Rattle.std.proofs.Common.{◌∙◌, sym, ap, ◌<◌, arith}
use Rattle.pg_worlds.specs.Flags.{has}
use Rattle.pg_worlds.specs.Worlds.{world_count}
use Rattle.pg_worlds.proofs.graph.Graph.add_needs.Goals as goal

pub add_all-requires : goal.add_all-requires
add_all-requires c = λ k e.
    let h : k < world_count c.args.self.now = c.needs.ensures.graph.in_range c.args.world k (ap (λ xs. has xs k) (sym c.needs.ensures.needs) ∙ e) in
    omega (arith, c.needs.ensures.graph.at_most)
