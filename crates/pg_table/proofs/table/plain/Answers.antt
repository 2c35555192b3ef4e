use Rattle.std.proofs.Common.{ap, ◌∙◌}
use Rattle.pg_goal.specs.View.{goal_of, lookup_of}
use Rattle.pg_moves.specs.Acts.{plain_act}
use Rattle.pg_moves.specs.Steps.{new_goals}
use Rattle.pg_runs.proofs.Named.{named}
use Rattle.pg_table.proofs.Acts.{unknown}
use Rattle.pg_table.proofs.table.plain.Goals as goal

pub returns-in-None : goal.returns-in-None
returns-in-None c =
    let l = lookup_of c.args.lookup.now in
    let g = goal_of c.args.goal.now in
    ap (λ o. new_goals l g (plain_act o)) (named c.args.head.now c.named.result c.named.ensures.word c.named.ensures.inverse ∙ c.in-None.is) ∙ unknown l g
