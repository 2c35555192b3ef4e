use Rattle.std.proofs.Common.{◌≡◌, ◌≤◌, length, sym, subst}
use Rattle.std.specs.Prelude.{Ok, Err, IsTrue}
use Rattle.pg_logic.specs.Declarations.{signature_of}
use Rattle.pg_logic.specs.Tree.{nodes_of, is_tight_formula}
use Rattle.pg_kernel.specs.View.{proof}
use Rattle.pg_script.specs.View.{expression}
use Rattle.pg_terms.specs.View.{formula}
use Rattle.pg_moves.specs.Acts.{Apply}
use Rattle.pg_moves.specs.Closing.{given}
use Rattle.pg_goal.specs.View.{goal_of, lookup_of}
use Rattle.pg_reduction.specs.Doing.{Yields}
use Rattle.pg_reduction.specs.Giving.{said}
use Rattle.pg_rewrites.specs.Applying.{fit}
use Rattle.pg_rewrites.specs.View.{fit_of}
use Rattle.pg_reduction.proofs.Does.{handed-within}
use Rattle.pg_rewrites.proofs.Doing.{asks, does-apply, ungiven-apply, stopped-apply}
use Rattle.pg_rewrites.proofs.Given.{given-few}
use Rattle.pg_rewrites.proofs.Values.{fits-tight}
use Rattle.pg_rewrites.proofs.applying.apply.Goals as goal

pub fitting-requires-clause-few : goal.fitting-requires-clause-few
fitting-requires-clause-few c =
    subst (λ a. nodes_of (formula a) ≤ 4096) (sym c.get.ensures) (given-few (lookup_of c.args.lookup.now) (goal_of c.args.goal.now) (expression c.args.expr.now) (said c.in-Ok.given) c.in-Ok.ensures.yields)

pub fitting-requires-clause-holes : goal.fitting-requires-clause-holes
fitting-requires-clause-holes c =
    let l = lookup_of c.args.lookup.now in
    let g = goal_of c.args.goal.now in
    subst (λ a. IsTrue (is_tight_formula 0 (formula a))) (sym c.get.ensures) (fits-tight (signature_of l.declared) (length g.vars) 0 (said c.in-Ok.given) c.in-Ok.ensures.proved.fitting)

pub applied-requires : goal.applied-requires
applied-requires c =
    let x = c.in-Ok.given in
    let f = fit_of c.in-Ok-fitting.fit in
    let e : fit (said x) (goal_of c.args.goal.now).target ≡ Ok f =
    subst (λ b. fit (said x) (formula b) ≡ Ok f) c.get-in-Ok.ensures (subst (λ a. fit (formula a) (formula c.get-in-Ok.result.now) ≡ Ok f) c.get.ensures c.in-Ok-fitting.ensures) in
    asks (lookup_of c.args.lookup.now) (goal_of c.args.goal.now) c.requires.ready (expression c.args.expr.now) (said x) (proof x.proof) c.in-Ok.ensures.yields c.in-Ok.ensures.proved f e

pub returns-in-Ok-fitting : goal.returns-in-Ok-fitting
returns-in-Ok-fitting c =
    let x = c.in-Ok.given in
    let f = fit_of c.in-Ok-fitting.fit in
    let e : fit (said x) (goal_of c.args.goal.now).target ≡ Ok f =
    subst (λ b. fit (said x) (formula b) ≡ Ok f) c.get-in-Ok.ensures (subst (λ a. fit (formula a) (formula c.get-in-Ok.result.now) ≡ Ok f) c.get.ensures c.in-Ok-fitting.ensures) in
    does-apply (lookup_of c.args.lookup.now) (goal_of c.args.goal.now) c.requires.ready (expression c.args.expr.now) (said x) (proof x.proof) c.in-Ok.ensures.yields c.in-Ok.ensures.proved f e
    c.applied.result c.applied.ensures

pub returns-in-Err-fitting : goal.returns-in-Err-fitting
returns-in-Err-fitting c =
    let l = lookup_of c.args.lookup.now in
    let g = goal_of c.args.goal.now in
    let x = c.in-Ok.given in
    let ex = expression c.args.expr.now in
    let fault = c.in-Err-fitting.fault in
    let e : Yields fit_of (fit (said x) g.target) (Err fault) =
    subst (λ b. Yields fit_of (fit (said x) (formula b)) (Err fault)) c.get-in-Ok.ensures (subst (λ a. Yields fit_of (fit (formula a) (formula c.get-in-Ok.result.now)) (Err fault)) c.get.ensures c.in-Err-fitting.ensures) in
    handed-within l g (Apply ex) fit_of (fit (said x) g.target) (stopped-apply l g ex (said x) c.in-Ok.ensures.yields) fault e

pub returns-in-Err : goal.returns-in-Err
returns-in-Err c =
    let l = lookup_of c.args.lookup.now in
    let g = goal_of c.args.goal.now in
    let ex = expression c.args.expr.now in
    handed-within l g (Apply ex) said (given l g ex) (ungiven-apply l g ex) c.in-Err.fault c.in-Err.ensures.yields
