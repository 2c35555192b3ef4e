use Rattle.std.proofs.Common.{[], length, sym}
use Rattle.pg_base.specs.Tokens.{word}
use Rattle.pg_logic.specs.Declarations.{signature_of}
use Rattle.pg_kernel.specs.View.{proof}
use Rattle.pg_script.specs.View.{expression}
use Rattle.pg_moves.specs.Acts.{ApplyAt}
use Rattle.pg_moves.specs.Closing.{given}
use Rattle.pg_goal.specs.View.{goal_of, lookup_of}
use Rattle.pg_reduction.specs.Giving.{said}
use Rattle.pg_reduction.specs.Named.{found_of}
use Rattle.pg_reduction.specs.declared.cause.Cause.TheVariants.{NoSuchName}
use Rattle.pg_moves.specs.Rewriting.{forward}
use Rattle.pg_moves.specs.Stripped.{unbound}
use Rattle.pg_rewrites.specs.Applying.{forwarded}
use Rattle.pg_rewrites.specs.View.{claim}
use Rattle.pg_reduction.proofs.Does.{handed-within}
use Rattle.pg_rewrites.proofs.Doing.{does-apply_at, large-forward, ungiven-apply_at, stopped-forward, unnamed-apply_at, stops-within, forms-large, forms-fault}
use Rattle.pg_rewrites.proofs.Given.{given-few}
use Rattle.pg_rewrites.proofs.Values.{fits-tight}
use Rattle.pg_rewrites.proofs.applying.apply_at.Goals as goal

pub forwarded-requires-clause-few : goal.forwarded-requires-clause-few
forwarded-requires-clause-few c = given-few (lookup_of c.args.lookup.now) (goal_of c.args.goal.now) (expression c.args.expr.now) (said c.in-Ok.given) c.in-Ok.ensures.yields

pub forwarded-requires-clause-holes : goal.forwarded-requires-clause-holes
forwarded-requires-clause-holes c =
    let l = lookup_of c.args.lookup.now in
    let g = goal_of c.args.goal.now in
    fits-tight (signature_of l.declared) (length g.vars) 0 (said c.in-Ok.given) c.in-Ok.ensures.proved.fitting

pub returns-in_ok-reworded-in-Ok-forwarded : goal.returns-in_ok-reworded-in-Ok-forwarded
returns-in_ok-reworded-in-Ok-forwarded c =
    let x = c.in-Ok.given in
    does-apply_at (lookup_of c.args.lookup.now) (goal_of c.args.goal.now) c.requires.ready (expression c.args.expr.now) (word c.args.name.now) (found_of c.in-Some.f) (sym c.in-Some.ensures) (said x) (proof x.proof)
    c.in-Ok.ensures.yields c.in-Ok.ensures.proved (claim c.in-Ok-forwarded.next) c.in-Ok-forwarded.ensures.0 c.in_ok-reworded-in-Ok-forwarded.field-0 c.in_ok-reworded-in-Ok-forwarded.ensures

pub returns-in_ok-hypothesis_limit-in-Err-Large : goal.returns-in_ok-hypothesis_limit-in-Err-Large
returns-in_ok-hypothesis_limit-in-Err-Large c =
    let x = c.in-Ok.given in
    let f = found_of c.in-Some.f in
    large-forward (lookup_of c.args.lookup.now) (goal_of c.args.goal.now) c.requires.ready (expression c.args.expr.now) (word c.args.name.now) (found_of c.in-Some.f) (sym c.in-Some.ensures) (said x) c.in-Ok.ensures.yields
    c.in-Err-Large.limit c.in_ok-hypothesis_limit-in-Err-Large.field-0
    (forms-large claim (forwarded f (said x) (proof x.proof)) (forward (unbound [] (said x)) (unbound [] (said x)).rest f.hyp.formula) c.in-Err-Large.field-0 c.in-Err-Large.limit c.in-Err-Large.field-0-is c.in-Err-Large.ensures) c.in_ok-hypothesis_limit-in-Err-Large.ensures

pub returns-in-Err-Fault : goal.returns-in-Err-Fault
returns-in-Err-Fault c =
    let l = lookup_of c.args.lookup.now in
    let g = goal_of c.args.goal.now in
    let x = c.in-Ok.given in
    let ex = expression c.args.expr.now in
    let f = found_of c.in-Some.f in
    handed-within l g (ApplyAt ex (word c.args.name.now)) claim (forwarded f (said x) (proof x.proof))
    (stopped-forward l g c.requires.ready ex (word c.args.name.now) f (sym c.in-Some.ensures) (said x) (proof x.proof) c.in-Ok.ensures.yields c.in-Ok.ensures.proved) c.in-Err-Fault.fault
    (forms-fault claim (forwarded f (said x) (proof x.proof)) (forward (unbound [] (said x)) (unbound [] (said x)).rest f.hyp.formula) c.in-Err-Fault.field-0 c.in-Err-Fault.fault c.in-Err-Fault.field-0-is c.in-Err-Fault.ensures)

pub returns-in-Err : goal.returns-in-Err
returns-in-Err c =
    let l = lookup_of c.args.lookup.now in
    let g = goal_of c.args.goal.now in
    let ex = expression c.args.expr.now in
    handed-within l g (ApplyAt ex (word c.args.name.now)) said (given l g ex) (ungiven-apply_at l g ex (word c.args.name.now) (found_of c.in-Some.f) (sym c.in-Some.ensures)) c.in-Err.fault c.in-Err.ensures.yields

pub returns-in-None : goal.returns-in-None
returns-in-None c =
    let w = word c.args.name.now in
    stops-within (lookup_of c.args.lookup.now) (goal_of c.args.goal.now) (ApplyAt (expression c.args.expr.now) w) (NoSuchName w.at) (unnamed-apply_at (lookup_of c.args.lookup.now) (goal_of c.args.goal.now) (expression c.args.expr.now) w (sym c.in-None.ensures))
