use Rattle.std.proofs.Common.{◌∙◌, ap, sym}
use Rattle.std.specs.Prelude.{option_map}
use Rattle.pg_terms.specs.View.{term}
use Rattle.pg_moves.specs.Instances.{term_instance, subterms}
use Rattle.pg_match.specs.View.{found_values}
use Rattle.pg_match.proofs.Firsts.{found_first, found_later, if_ok}
use Rattle.pg_match.proofs.searching.in_sides.Goals as goal

pub returns-in-Some : goal.returns-in-Some
returns-in-Some c =
    found_first (term_instance (term c.args.pattern.now) c.args.holes) (subterms (term c.args.s.now)) (subterms (term c.args.t.now)) (found_values c.in-Some.found)
    (ap (option_map found_values) (sym c.in-Some.is) ∙ c.in_ok-found.ensures)

pub returns : goal.returns
returns c =
    if_ok c.in_term-2.result _ _
    (λ o e. found_later (term_instance (term c.args.pattern.now) c.args.holes) (subterms (term c.args.s.now)) (subterms (term c.args.t.now)) (option_map found_values o)
    (ap (option_map found_values) (sym c.in_default.is) ∙ c.in_ok-found.ensures) e)
    c.in_term-2.ensures
