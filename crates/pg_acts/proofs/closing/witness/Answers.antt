use Rattle.pg_script.specs.View.{part}
use Rattle.pg_terms.specs.View.{term}
use Rattle.pg_moves.specs.Acts.{Witness}
use Rattle.pg_moves.specs.Closing.{term_there}
use Rattle.pg_goal.specs.View.{goal_of, lookup_of}
use Rattle.pg_reduction.proofs.Does.{handed-within}
use Rattle.pg_acts.proofs.Does.{does-witness, unread-witness}
use Rattle.pg_acts.proofs.closing.witness.Goals as goal

pub returns-in-Ok : goal.returns-in-Ok
returns-in-Ok c =
    does-witness (lookup_of c.args.lookup.now) (goal_of c.args.goal.now) c.requires.ready (part c.args.argument.now) (term c.in-Ok.t) c.in-Ok.ensures c.witnessed.result c.witnessed.ensures

pub returns-in-Err : goal.returns-in-Err
returns-in-Err c =
    let l = lookup_of c.args.lookup.now in
    let g = goal_of c.args.goal.now in
    let p = part c.args.argument.now in
    handed-within l g (Witness p) term (term_there l g p) (unread-witness l g p) c.in-Err.fault c.in-Err.ensures
