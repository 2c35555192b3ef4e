use Rattle.std.proofs.Common.{sym, ◌∙◌}
use Rattle.pg_worlds.proofs.Games.{graph_from, graph_rows}
use Rattle.pg_worlds.proofs.graph.is_graph.Goals as goal

pub returns-then-needs-le-MOST_WORLDS : goal.returns-then-needs-le-MOST_WORLDS
returns-then-needs-le-MOST_WORLDS c =
    let lists = c.if-needs-le-MOST_WORLDS.true in (
      λ yes. graph_from c.args.levels.now c.args.needs.now lists.0 lists.1 (sym c.all_rows_below.ensures ∙ yes),
      λ graph. c.all_rows_below.ensures ∙ graph_rows c.args.levels.now c.args.needs.now graph,
    )
