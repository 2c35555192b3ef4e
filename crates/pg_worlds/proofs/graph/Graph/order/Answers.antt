use Rattle.std.proofs.Common.{◌∙◌, sym}
use Rattle.std.proofs.lemmas.Bool.{not-true}
use Rattle.pg_worlds.specs.Flags.{flag}
use Rattle.pg_worlds.proofs.Placing.{behind_needs, placed_from_can, no_order}
use Rattle.pg_worlds.proofs.graph.Graph.order.Goals as goal

pub returns-clause-err : goal.returns-clause-err
returns-clause-err c =
    let placed = flag c.place_worlds.new.placed in (
      no_order c.args.self.now placed c.in_ok-order.ensures.stuck c.in-Some.start c.in-Some.ensures.0 (not-true _ c.in-Some.ensures.1),
      record {
        can = placed;
        decides = λ w h. (
          λ e. (c.in_ok-order.order.items, behind_needs c.args.self.now c.in_ok-order.order.items c.in_ok-order.ensures.first, sym (c.in_ok-order.ensures.placed w) ∙ e),
          λ can. placed_from_can c.args.self.now placed c.in_ok-order.ensures.stuck w can,
        );
        start = c.in-Some.start;
        first = c.in-Some.ensures;
        met = c.in_ok-worlds.ensures;
      },
    )
