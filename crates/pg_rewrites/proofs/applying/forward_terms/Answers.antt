use Rattle.std.proofs.Common.{[], refl, ap, sym, ◌∙◌}
use Rattle.pg_terms.specs.View.{formula}
use Rattle.pg_rewrites.specs.Searching.{left_side}
use Rattle.pg_rewrites.proofs.Found.{left-tight, left-firsts, forward-yields}
use Rattle.pg_rewrites.proofs.applying.forward_terms.Goals as goal

pub match_formula-requires : goal.match_formula-requires
match_formula-requires c =
    left-tight (formula c.args.a.now) (formula c.in-Some.left.now) c.without_binders-form.result.count (ap left_side (sym (c.without_binders-form.ensures.rest [])) ∙ sym c.in-Some.ensures) (c.without_binders-form.ensures.count [] refl) c.requires.holes

pub fixed-requires-clause-few : goal.fixed-requires-clause-few
fixed-requires-clause-few c =
    (left-firsts (formula c.args.a.now) (formula c.in-Some.left.now) (formula c.args.subject.now) c.without_binders-form.result.count c.in_ok-match_formula.field-0 c.in-Some-2.found c.requires.few (c.without_binders-form.ensures.count [] refl) c.in-Some-2.is c.in_ok-match_formula.ensures).few

pub fixed-requires-clause-names : goal.fixed-requires-clause-names
fixed-requires-clause-names c =
    (left-firsts (formula c.args.a.now) (formula c.in-Some.left.now) (formula c.args.subject.now) c.without_binders-form.result.count c.in_ok-match_formula.field-0 c.in-Some-2.found c.requires.few (c.without_binders-form.ensures.count [] refl) c.in-Some-2.is c.in_ok-match_formula.ensures).names

pub returns-in-Some-2 : goal.returns-in-Some-2
returns-in-Some-2 c =
    forward-yields (formula c.args.a.now) (formula c.in-Some.left.now) (formula c.args.subject.now) c.without_binders-form.result.count c.in_ok-match_formula.field-0 c.in-Some-2.found c.fixed.result c.requires.few
    (ap left_side (sym (c.without_binders-form.ensures.rest [])) ∙ sym c.in-Some.ensures) (c.without_binders-form.ensures.count [] refl) c.in-Some-2.is c.in_ok-match_formula.ensures c.fixed.ensures
