use Rattle.std.specs.Prelude.{option_map}
use Rattle.pg_base.specs.Tokens.{word}
use Rattle.pg_kernel.specs.View.{proof}
use Rattle.pg_script.specs.View.{expression}
use Rattle.pg_moves.specs.Acts.{Have}
use Rattle.pg_moves.specs.Assuming.{said_or_given}
use Rattle.pg_goal.specs.View.{goal_of, lookup_of}
use Rattle.pg_reduction.specs.Giving.{said}
use Rattle.pg_acts.specs.Giving.{lent}
use Rattle.pg_reduction.proofs.Does.{handed}
use Rattle.pg_acts.proofs.Known.{does-have, stopped-have}
use Rattle.pg_acts.proofs.giving.have.Goals as goal

pub returns-in-Ok : goal.returns-in-Ok
returns-in-Ok c =
    let x = c.in-Ok.given in
    let o = option_map lent c.args.formula in
    does-have (lookup_of c.args.lookup.now) (goal_of c.args.goal.now) c.requires.ready (word c.args.name.now) o (expression c.args.expr.now) (said x) (proof x.proof) c.in-Ok.ensures.yields c.in-Ok.ensures.known c.had.result c.had.ensures

pub returns-in-Err : goal.returns-in-Err
returns-in-Err c =
    let l = lookup_of c.args.lookup.now in
    let g = goal_of c.args.goal.now in
    let x = word c.args.name.now in
    let o = option_map lent c.args.formula in
    let e = expression c.args.expr.now in
    handed l g (Have x o e) said (said_or_given l g o e) (stopped-have l g x o e) c.in-Err.fault c.in-Err.ensures.yields
