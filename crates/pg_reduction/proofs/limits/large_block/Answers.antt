use Rattle.std.proofs.Common.{◌+◌, ◌-◌, ◌^◌, length, map, ap, sym, ◌∙◌}
use Rattle.std.specs.Prelude.{min}
use Rattle.std.proofs.lemmas.List.{length-map}
use Rattle.pg_goal.specs.View.{goal_of}
use Rattle.pg_reduction.proofs.Large.{large-together, nodes-together}
use Rattle.pg_reduction.proofs.limits.large_block.Goals as goal

pub returns : goal.returns
returns c =
    let new = c.args.new.now in
    let others = c.args.others.now in
    λ rest h.
    large-together (map goal_of new) rest c.saturating_add-count.result c.saturating_add.result c.too_many.result c.over.result c.or.result
    (c.saturating_add-count.ensures ∙ ap (λ n. min (n + length new) (2 ^ 64 - 1)) h.0 ∙ ap (λ n. min (length rest + n) (2 ^ 64 - 1)) (sym (length-map new goal_of)))
    (nodes-together (map goal_of new) rest c.all_nodes.result others.nodes c.saturating_add.result (2 ^ 64 - 1) c.all_nodes.ensures h.1 c.saturating_add.ensures)
    c.too_many.ensures c.over.ensures c.or.ensures
