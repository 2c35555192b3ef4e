use Rattle.std.proofs.Common.{[], refl, ap, sym, ◌∙◌}
use Rattle.pg_terms.specs.View.{term, formula}
use Rattle.pg_rewrites.specs.Searching.{old_side}
use Rattle.pg_rewrites.proofs.Found.{side-tight, side-firsts, rule-yields}
use Rattle.pg_rewrites.proofs.rewriting.rule_terms.Goals as goal

pub first_instance-requires : goal.first_instance-requires
first_instance-requires c =
    side-tight c.args.back (formula c.args.a.now) (term c.in-Some.old.now) c.without_binders-form.result.count (ap (old_side c.args.back) (sym (c.without_binders-form.ensures.rest [])) ∙ sym c.in-Some.ensures) (c.without_binders-form.ensures.count [] refl) c.requires.holes

pub fixed-requires-clause-few : goal.fixed-requires-clause-few
fixed-requires-clause-few c =
    (side-firsts (formula c.args.a.now) (term c.in-Some.old.now) (formula c.args.subject.now) c.without_binders-form.result.count c.in-Ok.found c.requires.few (c.without_binders-form.ensures.count [] refl) c.in-Ok.ensures.1).few

pub fixed-requires-clause-names : goal.fixed-requires-clause-names
fixed-requires-clause-names c =
    (side-firsts (formula c.args.a.now) (term c.in-Some.old.now) (formula c.args.subject.now) c.without_binders-form.result.count c.in-Ok.found c.requires.few (c.without_binders-form.ensures.count [] refl) c.in-Ok.ensures.1).names

pub returns-in-Ok : goal.returns-in-Ok
returns-in-Ok c =
    rule-yields c.args.back (formula c.args.a.now) (term c.in-Some.old.now) (formula c.args.subject.now) c.without_binders-form.result.count c.in-Ok.found c.fixed.result c.requires.few
    (ap (old_side c.args.back) (sym (c.without_binders-form.ensures.rest [])) ∙ sym c.in-Some.ensures) (c.without_binders-form.ensures.count [] refl) c.in-Ok.ensures.0 c.in-Ok.ensures.1 c.fixed.ensures
