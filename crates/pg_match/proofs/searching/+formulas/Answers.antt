use Rattle.std.proofs.Common.{◌∙◌, ap, sym}
use Rattle.std.specs.Prelude.{option_map}
use Rattle.pg_terms.specs.View.{term, formula}
use Rattle.pg_moves.specs.Instances.{term_instance, subterms_of}
use Rattle.pg_match.specs.View.{found_values}
use Rattle.pg_match.proofs.Firsts.{found_first, found_later, if_ok}
use Rattle.pg_match.proofs.searching.+formulas.Goals as goal

pub in_either-returns-in-Some : goal.in_either-returns-in-Some
in_either-returns-in-Some t c =
    found_first (term_instance (term c.args.pattern.now) c.args.holes) (subterms_of (formula c.args.a.now)) (subterms_of (formula c.args.b.now)) (found_values c.in-Some.found)
    (ap (option_map found_values) (sym c.in-Some.is) ∙ c.in_ok-found.ensures)

pub in_either-returns : goal.in_either-returns
in_either-returns t c =
    if_ok c.in_formula-2.result _ _
    (λ o e. found_later (term_instance (term c.args.pattern.now) c.args.holes) (subterms_of (formula c.args.a.now)) (subterms_of (formula c.args.b.now)) (option_map found_values o)
    (ap (option_map found_values) (sym c.in_default.is) ∙ c.in_ok-found.ensures) e)
    c.in_formula-2.ensures
