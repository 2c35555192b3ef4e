use Rattle.std.proofs.Common.{Bool, [], length, subst}
use Rattle.std.specs.Prelude.{Result, Ok, Err}
use Rattle.pg_logic.specs.Declarations.{signature_of}
use Rattle.pg_kernel.specs.View.{proof}
use Rattle.pg_script.specs.View.{rule, expression}
use Rattle.pg_terms.specs.declared.formula.Formula.{Formula}
use Rattle.pg_terms.specs.View.{formula}
use Rattle.pg_goal.specs.declared.expression.Given.{Given}
use Rattle.pg_moves.specs.Acts.{Rewrite}
use Rattle.pg_moves.specs.Closing.{given}
use Rattle.pg_goal.specs.View.{goal_of, lookup_of}
use Rattle.pg_moves.specs.Rewriting.{rewritten_by}
use Rattle.pg_moves.specs.Stripped.{unbound}
use Rattle.pg_reduction.specs.Giving.{said}
use Rattle.pg_rewrites.specs.declared.rewriting.Equation as rust
use Rattle.pg_rewrites.specs.declared.measuring.Refusal.{Refusal}
use Rattle.pg_rewrites.specs.Measuring.{Forms}
use Rattle.pg_rewrites.specs.Rewriting.{equation}
use Rattle.pg_rewrites.specs.View.{equation_of}
use Rattle.pg_reduction.proofs.Does.{handed-within}
use Rattle.pg_rewrites.proofs.Doing.{small-rewrite, does-rewrite, large-rewrite, ungiven-rewrite, stopped-rewrite, forms-large, forms-fault}
use Rattle.pg_rewrites.proofs.Given.{given-few}
use Rattle.pg_rewrites.proofs.Values.{fits-tight}
use Rattle.pg_rewrites.proofs.exchanging.rewrite.Goals as goal

pub rule_equation-requires-clause-few : goal.rule_equation-requires-clause-few
rule_equation-requires-clause-few c = given-few (lookup_of c.args.lookup.now) (goal_of c.args.goal.now) (expression c.args.rule.now.expr) (said c.in-Ok.given) c.in-Ok.ensures.yields

pub rule_equation-requires-clause-holes : goal.rule_equation-requires-clause-holes
rule_equation-requires-clause-holes c =
    let l = lookup_of c.args.lookup.now in
    let g = goal_of c.args.goal.now in
    fits-tight (signature_of l.declared) (length g.vars) 0 (said c.in-Ok.given) c.in-Ok.ensures.proved.fitting

-- the equation of what is given, for a formula
abbrev Answered : Bool → Given → Result rust.Equation Refusal → Formula → Type 0
Answered back x r b = Forms equation_of (equation back (said x) (proof x.proof) (formula b)) (rewritten_by back (unbound [] (said x)) (formula b)) r

pub exchanged-requires : goal.exchanged-requires
exchanged-requires c =
    let g = goal_of c.args.goal.now in
    let x = c.in-Ok.given in
    let r = rule c.args.rule.now in
    let q = equation_of c.in-Ok-rule_equation.e in
    let w = subst (Answered r.back x (Ok c.in-Ok-rule_equation.e)) c.get.ensures c.in-Ok-rule_equation.ensures in
    small-rewrite (lookup_of c.args.lookup.now) g c.requires.ready r.back (said x) (proof x.proof) c.in-Ok.ensures.proved g.target c.requires.ready.fits.1 q w.0 w.1

pub returns-in_ok-exchanged-in-Ok-rule_equation : goal.returns-in_ok-exchanged-in-Ok-rule_equation
returns-in_ok-exchanged-in-Ok-rule_equation c =
    let g = goal_of c.args.goal.now in
    let x = c.in-Ok.given in
    let r = rule c.args.rule.now in
    let q = equation_of c.in-Ok-rule_equation.e in
    let w = subst (Answered r.back x (Ok c.in-Ok-rule_equation.e)) c.get.ensures c.in-Ok-rule_equation.ensures in
    does-rewrite (lookup_of c.args.lookup.now) g c.requires.ready r (said x) (proof x.proof) c.in-Ok.ensures.yields c.in-Ok.ensures.proved q w.0
    c.in_ok-exchanged-in-Ok-rule_equation.field-0 c.in_ok-exchanged-in-Ok-rule_equation.ensures

pub returns-in_ok-target_limit-in-Err-Large : goal.returns-in_ok-target_limit-in-Err-Large
returns-in_ok-target_limit-in-Err-Large c =
    let g = goal_of c.args.goal.now in
    let x = c.in-Ok.given in
    let r = rule c.args.rule.now in
    large-rewrite (lookup_of c.args.lookup.now) g c.requires.ready r (said x) c.in-Ok.ensures.yields c.in-Err-Large.limit c.in_ok-target_limit-in-Err-Large.field-0
    (forms-large equation_of (equation r.back (said x) (proof x.proof) g.target) (rewritten_by r.back (unbound [] (said x)) g.target) c.in-Err-Large.field-0 c.in-Err-Large.limit c.in-Err-Large.field-0-is
    (subst (Answered r.back x (Err c.in-Err-Large.field-0)) c.get.ensures c.in-Err-Large.ensures)) c.in_ok-target_limit-in-Err-Large.ensures

pub returns-in-Err-Fault : goal.returns-in-Err-Fault
returns-in-Err-Fault c =
    let l = lookup_of c.args.lookup.now in
    let g = goal_of c.args.goal.now in
    let x = c.in-Ok.given in
    let r = rule c.args.rule.now in
    let fault = c.in-Err-Fault.fault in
    handed-within l g (Rewrite r) equation_of (equation r.back (said x) (proof x.proof) g.target) (stopped-rewrite l g c.requires.ready r (said x) (proof x.proof) c.in-Ok.ensures.yields c.in-Ok.ensures.proved) fault
    (forms-fault equation_of (equation r.back (said x) (proof x.proof) g.target) (rewritten_by r.back (unbound [] (said x)) g.target) c.in-Err-Fault.field-0 fault c.in-Err-Fault.field-0-is
    (subst (Answered r.back x (Err c.in-Err-Fault.field-0)) c.get.ensures c.in-Err-Fault.ensures))

pub returns-in-Err : goal.returns-in-Err
returns-in-Err c =
    let l = lookup_of c.args.lookup.now in
    let g = goal_of c.args.goal.now in
    let r = rule c.args.rule.now in
    handed-within l g (Rewrite r) said (given l g r.expr) (ungiven-rewrite l g r) c.in-Err.fault c.in-Err.ensures.yields
