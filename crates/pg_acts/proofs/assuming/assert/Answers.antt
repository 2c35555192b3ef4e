use Rattle.pg_base.specs.Tokens.{word}
use Rattle.pg_script.specs.View.{part}
use Rattle.pg_terms.specs.View.{formula}
use Rattle.pg_moves.specs.Acts.{Assert}
use Rattle.pg_moves.specs.Closing.{formula_there}
use Rattle.pg_goal.specs.View.{goal_of, lookup_of}
use Rattle.pg_reduction.proofs.Does.{handed}
use Rattle.pg_acts.proofs.Does.{does-assert, unread-assert}
use Rattle.pg_acts.proofs.assuming.assert.Goals as goal

pub returns-in-Ok : goal.returns-in-Ok
returns-in-Ok c =
    does-assert (lookup_of c.args.lookup.now) (goal_of c.args.goal.now) c.requires.ready (word c.args.name.now) (part c.args.argument.now) (formula c.in-Ok.a) c.in-Ok.ensures c.asserted.result c.asserted.ensures

pub returns-in-Err : goal.returns-in-Err
returns-in-Err c =
    let l = lookup_of c.args.lookup.now in
    let g = goal_of c.args.goal.now in
    let x = word c.args.name.now in
    let p = part c.args.argument.now in
    handed l g (Assert x p) formula (formula_there l g p) (unread-assert l g x p) c.in-Err.fault c.in-Err.ensures
