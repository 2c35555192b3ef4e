use Rattle.pg_base.specs.Tokens.{word}
use Rattle.pg_script.specs.View.{part}
use Rattle.pg_terms.specs.View.{formula}
use Rattle.pg_moves.specs.Acts.{ByCases}
use Rattle.pg_moves.specs.Closing.{formula_there}
use Rattle.pg_goal.specs.View.{goal_of, lookup_of}
use Rattle.pg_reduction.proofs.Does.{handed}
use Rattle.pg_acts.proofs.Does.{does-by_cases, unread-by_cases}
use Rattle.pg_acts.proofs.assuming.by_cases.Goals as goal

pub returns-in-Ok : goal.returns-in-Ok
returns-in-Ok c =
    does-by_cases (lookup_of c.args.lookup.now) (goal_of c.args.goal.now) c.requires.ready (word c.args.name.now) (part c.args.argument.now) (formula c.in-Ok.a) c.in-Ok.ensures c.split.result c.split.ensures

pub returns-in-Err : goal.returns-in-Err
returns-in-Err c =
    let l = lookup_of c.args.lookup.now in
    let g = goal_of c.args.goal.now in
    let x = word c.args.name.now in
    let p = part c.args.argument.now in
    handed l g (ByCases x p) formula (formula_there l g p) (unread-by_cases l g x p) c.in-Err.fault c.in-Err.ensures
