use Rattle.std.proofs.Common.{◌+◌, ◌-◌, ◌<◌, length, ap, sym, ◌∙◌, subst, arith}
use Rattle.pg_terms.specs.View.{formula}
use Rattle.pg_moves.specs.Instances.{filled_formula}
use Rattle.pg_moves.specs.Measures.{first_over, formula_measures}
use Rattle.pg_match.specs.Sizes.{AreSizes}
use Rattle.pg_reduction.specs.Limits.{Tells}
use Rattle.pg_rewrites.specs.Applying.{antecedents}
use Rattle.pg_reduction.proofs.Passed.{passed}
use Rattle.pg_rewrites.proofs.Antecedents.{front-sizes, count-sizes, imp-here, imp-on, all-on}
use Rattle.pg_rewrites.proofs.Making.{formula-all, formula-imp}
use Rattle.pg_rewrites.proofs.measuring.+large_antecedent.Goals as goal

pub returns-in-Some : goal.returns-in-Some
returns-in-Some t c = λ us ts l k.
    imp-here c.args.steps us ts (formula c.in-Imp.left) (formula c.in-Imp.right) (formula c.args.a.now) c.in-Some.limit c.large_instance.result c.if-steps-eq0.false (ap formula c.in-Imp.is ∙ formula-imp c.in-Imp.left c.in-Imp.right) c.in-Some.is
    (subst (λ a. Tells (first_over (formula_measures (filled_formula us (formula a)))) c.large_instance.result) c.get-in-Imp.ensures (c.large_instance.ensures us (front-sizes us ts c.args.used c.args.values.now l k)))

pub returns-else-used-values : goal.returns-else-used-values
returns-else-used-values t c = λ us ts l k.
    let count = count-sizes us ts c.args.values.now k in
    let le = c.requires in
    let ne = c.if-used-values.false in
    let more : length us < length us + length ts = omega (arith, count, l, le, ne) in
    all-on c.args.steps us ts c.in-All.field-0 (formula c.in-All.body) (formula c.args.a.now) c.large_antecedent.result c.if-steps-eq0.false (ap formula c.in-All.is ∙ formula-all c.in-All.field-0 c.in-All.body) more
    (λ vs ws n e.
    subst (λ a. Tells (passed (antecedents (c.args.steps - 1) vs ws (formula a))) c.large_antecedent.result) c.get.ensures
    (c.large_antecedent.ensures vs ws (n ∙ ap (λ n. n + 1) l) (subst (λ us. AreSizes us c.args.values.now) (sym e) k)))

pub returns-in_default-large_instance : goal.returns-in_default-large_instance
returns-in_default-large_instance t c = λ us ts l k.
    imp-on c.args.steps us ts (formula c.in-Imp.left) (formula c.in-Imp.right) (formula c.args.a.now) c.large_instance.result c.large_antecedent-in-Imp.result c.if-steps-eq0.false (ap formula c.in-Imp.is ∙ formula-imp c.in-Imp.left c.in-Imp.right)
    c.in_default-large_instance.is
    (subst (λ a. Tells (first_over (formula_measures (filled_formula us (formula a)))) c.large_instance.result) c.get-in-Imp.ensures (c.large_instance.ensures us (front-sizes us ts c.args.used c.args.values.now l k)))
    (subst (λ a. Tells (passed (antecedents (c.args.steps - 1) us ts (formula a))) c.large_antecedent-in-Imp.result) c.get-in-Imp-2.ensures (c.large_antecedent-in-Imp.ensures us ts l k))
