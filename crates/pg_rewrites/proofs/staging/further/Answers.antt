use Rattle.std.proofs.Common.{rules, ◌≡◌, suc, Some, None, ap, sym, ◌∙◌, subst}
use Rattle.std.specs.Prelude.{slice_get}
use Rattle.pg_logic.specs.Tree.{all, imp}
use Rattle.pg_terms.specs.declared.formula.Formula.TheVariants.{All, Imp}
use Rattle.pg_terms.specs.View.{formula}
use Rattle.pg_rewrites.specs.Staging.{made}
use Rattle.pg_rewrites.proofs.Making.{formula-all, formula-imp, made-ended, made-binder, made-antecedent, if-ok, ok-of}
use Rattle.pg_rewrites.proofs.staging.further.Goals as goal

pub returns-in-None : goal.returns-in-None
returns-in-None c =
    let p = c.args.partial in
    let by = c.args.by.now in
    let is : p.rest ≡ All c.in-All.x c.in-All.body = search rules in
    let e : formula p.rest ≡ all c.in-All.x (formula c.in-All.body) = ap formula is ∙ formula-all c.in-All.x c.in-All.body in
    let n : None ≡ slice_get by p.used = search rules in
    let same : record { stages = p.stages; rest = All c.in-All.x c.in-All.body; used = p.used } ≡ p = ap (λ a. record { stages = p.stages; rest = a; used = p.used }) (sym is) in
    if-ok _ c.unchanged.result (λ r q k. subst (λ r. made by k r ≡ made by (suc k) p) (sym (ok-of _ c.unchanged.result r q c.unchanged.ensures ∙ same)) (made-ended by k p c.in-All.x (formula c.in-All.body) e n))

pub returns-in-Some : goal.returns-in-Some
returns-in-Some c =
    let p = c.args.partial in
    let by = c.args.by.now in
    let is : p.rest ≡ All c.in-All.x c.in-All.body = search rules in
    let e : formula p.rest ≡ all c.in-All.x (formula c.in-All.body) = ap formula is ∙ formula-all c.in-All.x c.in-All.body in
    let n : Some c.in-Some.t.now ≡ slice_get by p.used = search rules in
    if-ok _ c.at_binder.result (λ r q k. made-binder by k p r c.in-All.x (formula c.in-All.body) c.in-Some.t.now e n (ok-of _ c.at_binder.result r q c.at_binder.ensures.stages) (ok-of _ c.at_binder.result r q c.at_binder.ensures.rest) (ok-of _ c.at_binder.result r q c.at_binder.ensures.used))

pub returns-in-Imp : goal.returns-in-Imp
returns-in-Imp c =
    let p = c.args.partial in
    let by = c.args.by.now in
    let is : p.rest ≡ Imp c.in-Imp.left c.in-Imp.right = search rules in
    let e : formula p.rest ≡ imp (formula c.in-Imp.left) (formula c.in-Imp.right) = ap formula is ∙ formula-imp c.in-Imp.left c.in-Imp.right in
    if-ok _ c.at_antecedent.result (λ r q k.
    made-antecedent by k p r (formula c.in-Imp.left) (formula c.in-Imp.right) e (ok-of _ c.at_antecedent.result r q c.at_antecedent.ensures.stages)
    (ap formula (ok-of _ c.at_antecedent.result r q c.at_antecedent.ensures.rest)) (ok-of _ c.at_antecedent.result r q c.at_antecedent.ensures.used))
