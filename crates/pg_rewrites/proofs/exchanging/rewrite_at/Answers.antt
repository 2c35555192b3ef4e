use Rattle.std.proofs.Common.{Bool, [], length, sym, subst}
use Rattle.std.specs.Prelude.{Result, Ok, Err}
use Rattle.pg_base.specs.Tokens.{word}
use Rattle.pg_logic.specs.Declarations.{signature_of}
use Rattle.pg_kernel.specs.View.{proof}
use Rattle.pg_script.specs.View.{rule, expression}
use Rattle.pg_terms.specs.declared.formula.Formula.{Formula}
use Rattle.pg_terms.specs.View.{formula}
use Rattle.pg_goal.specs.declared.expression.Given.{Given}
use Rattle.pg_moves.specs.Acts.{RewriteAt}
use Rattle.pg_moves.specs.Closing.{given}
use Rattle.pg_goal.specs.View.{goal_of, lookup_of}
use Rattle.pg_moves.specs.Rewriting.{rewritten_by}
use Rattle.pg_moves.specs.Stripped.{unbound}
use Rattle.pg_reduction.specs.Giving.{said}
use Rattle.pg_reduction.specs.Named.{found_of}
use Rattle.pg_reduction.specs.declared.cause.Cause.TheVariants.{NoSuchName}
use Rattle.pg_rewrites.specs.declared.rewriting.Equation as rust
use Rattle.pg_rewrites.specs.declared.measuring.Refusal.{Refusal}
use Rattle.pg_rewrites.specs.Measuring.{Forms}
use Rattle.pg_rewrites.specs.Rewriting.{equation}
use Rattle.pg_rewrites.specs.View.{equation_of}
use Rattle.pg_reduction.proofs.Does.{handed-within}
use Rattle.pg_rewrites.proofs.Doing.{found-fits, small-rewrite, does-rewrite_at, large-rewrite_at, ungiven-rewrite_at, stopped-rewrite_at, unnamed-rewrite_at, stops-within, forms-large, forms-fault}
use Rattle.pg_rewrites.proofs.Given.{given-few}
use Rattle.pg_rewrites.proofs.Values.{fits-tight}
use Rattle.pg_rewrites.proofs.exchanging.rewrite_at.Goals as goal

pub rule_equation-requires-clause-few : goal.rule_equation-requires-clause-few
rule_equation-requires-clause-few c = given-few (lookup_of c.args.lookup.now) (goal_of c.args.goal.now) (expression c.args.rule.now.expr) (said c.in-Ok.given) c.in-Ok.ensures.yields

pub rule_equation-requires-clause-holes : goal.rule_equation-requires-clause-holes
rule_equation-requires-clause-holes c =
    let l = lookup_of c.args.lookup.now in
    let g = goal_of c.args.goal.now in
    fits-tight (signature_of l.declared) (length g.vars) 0 (said c.in-Ok.given) c.in-Ok.ensures.proved.fitting

-- the equation of what is given, for a formula
abbrev Answered : Bool → Given → Result rust.Equation Refusal → Formula → Type 0
Answered back x r b = Forms equation_of (equation back (said x) (proof x.proof) (formula b)) (rewritten_by back (unbound [] (said x)) (formula b)) r

pub exchanged_at-requires : goal.exchanged_at-requires
exchanged_at-requires c =
    let l = lookup_of c.args.lookup.now in
    let g = goal_of c.args.goal.now in
    let x = c.in-Ok.given in
    let r = rule c.args.rule.now in
    let f = found_of c.in-Some.f in
    let q = equation_of c.in-Ok-rule_equation.e in
    let w = subst (Answered r.back x (Ok c.in-Ok-rule_equation.e)) c.get.ensures c.in-Ok-rule_equation.ensures in
    small-rewrite l g c.requires.ready r.back (said x) (proof x.proof) c.in-Ok.ensures.proved f.hyp.formula (found-fits l g c.requires.ready (word c.args.name.now) f (sym c.in-Some.ensures)) q w.0 w.1

pub returns-in_ok-exchanged_at-in-Ok-rule_equation : goal.returns-in_ok-exchanged_at-in-Ok-rule_equation
returns-in_ok-exchanged_at-in-Ok-rule_equation c =
    let g = goal_of c.args.goal.now in
    let x = c.in-Ok.given in
    let r = rule c.args.rule.now in
    let q = equation_of c.in-Ok-rule_equation.e in
    let w = subst (Answered r.back x (Ok c.in-Ok-rule_equation.e)) c.get.ensures c.in-Ok-rule_equation.ensures in
    does-rewrite_at (lookup_of c.args.lookup.now) g c.requires.ready r (word c.args.name.now) (found_of c.in-Some.f) (sym c.in-Some.ensures) (said x) (proof x.proof) c.in-Ok.ensures.yields c.in-Ok.ensures.proved q w.0
    c.in_ok-exchanged_at-in-Ok-rule_equation.field-0 c.in_ok-exchanged_at-in-Ok-rule_equation.ensures

pub returns-in_ok-hypothesis_limit-in-Err-Large : goal.returns-in_ok-hypothesis_limit-in-Err-Large
returns-in_ok-hypothesis_limit-in-Err-Large c =
    let x = c.in-Ok.given in
    let r = rule c.args.rule.now in
    let f = found_of c.in-Some.f in
    large-rewrite_at (lookup_of c.args.lookup.now) (goal_of c.args.goal.now) c.requires.ready r (word c.args.name.now) f (sym c.in-Some.ensures) (said x) c.in-Ok.ensures.yields c.in-Err-Large.limit c.in_ok-hypothesis_limit-in-Err-Large.field-0
    (forms-large equation_of (equation r.back (said x) (proof x.proof) f.hyp.formula) (rewritten_by r.back (unbound [] (said x)) f.hyp.formula) c.in-Err-Large.field-0 c.in-Err-Large.limit c.in-Err-Large.field-0-is
    (subst (Answered r.back x (Err c.in-Err-Large.field-0)) c.get.ensures c.in-Err-Large.ensures)) c.in_ok-hypothesis_limit-in-Err-Large.ensures

pub returns-in-Err-Fault : goal.returns-in-Err-Fault
returns-in-Err-Fault c =
    let l = lookup_of c.args.lookup.now in
    let g = goal_of c.args.goal.now in
    let x = c.in-Ok.given in
    let r = rule c.args.rule.now in
    let f = found_of c.in-Some.f in
    let w = word c.args.name.now in
    let fault = c.in-Err-Fault.fault in
    handed-within l g (RewriteAt r w) equation_of (equation r.back (said x) (proof x.proof) f.hyp.formula)
    (stopped-rewrite_at l g c.requires.ready r w f (sym c.in-Some.ensures) (said x) (proof x.proof) c.in-Ok.ensures.yields c.in-Ok.ensures.proved) fault
    (forms-fault equation_of (equation r.back (said x) (proof x.proof) f.hyp.formula) (rewritten_by r.back (unbound [] (said x)) f.hyp.formula) c.in-Err-Fault.field-0 fault c.in-Err-Fault.field-0-is
    (subst (Answered r.back x (Err c.in-Err-Fault.field-0)) c.get.ensures c.in-Err-Fault.ensures))

pub returns-in-Err : goal.returns-in-Err
returns-in-Err c =
    let l = lookup_of c.args.lookup.now in
    let g = goal_of c.args.goal.now in
    let r = rule c.args.rule.now in
    let w = word c.args.name.now in
    handed-within l g (RewriteAt r w) said (given l g r.expr) (ungiven-rewrite_at l g r w (found_of c.in-Some.f) (sym c.in-Some.ensures)) c.in-Err.fault c.in-Err.ensures.yields

pub returns-in-None : goal.returns-in-None
returns-in-None c =
    let l = lookup_of c.args.lookup.now in
    let g = goal_of c.args.goal.now in
    let r = rule c.args.rule.now in
    let w = word c.args.name.now in
    stops-within l g (RewriteAt r w) (NoSuchName w.at) (unnamed-rewrite_at l g r w (sym c.in-None.ensures))
