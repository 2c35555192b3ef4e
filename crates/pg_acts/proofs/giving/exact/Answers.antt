use Rattle.pg_kernel.specs.View.{proof}
use Rattle.pg_script.specs.View.{expression}
use Rattle.pg_moves.specs.Acts.{Exact}
use Rattle.pg_moves.specs.Closing.{given}
use Rattle.pg_goal.specs.View.{goal_of, lookup_of}
use Rattle.pg_reduction.specs.Giving.{said}
use Rattle.pg_reduction.proofs.Does.{handed}
use Rattle.pg_acts.proofs.Known.{does-exact, stopped-exact}
use Rattle.pg_acts.proofs.giving.exact.Goals as goal

pub returns-in-Ok : goal.returns-in-Ok
returns-in-Ok c =
    let x = c.in-Ok.given in
    does-exact (lookup_of c.args.lookup.now) (goal_of c.args.goal.now) c.requires.ready (expression c.args.expr.now) (said x) (proof x.proof) c.in-Ok.ensures.yields c.in-Ok.ensures.proved c.closed_by.result c.closed_by.ensures

pub returns-in-Err : goal.returns-in-Err
returns-in-Err c =
    let l = lookup_of c.args.lookup.now in
    let g = goal_of c.args.goal.now in
    let e = expression c.args.expr.now in
    handed l g (Exact e) said (given l g e) (stopped-exact l g e) c.in-Err.fault c.in-Err.ensures.yields
