use Rattle.std.proofs.Common.{◌∙◌, ap, sym}
use Rattle.std.specs.Prelude.{option_map}
use Rattle.pg_terms.specs.View.{term}
use Rattle.pg_moves.specs.Instances.{term_instance}
use Rattle.pg_match.specs.View.{found_values}
use Rattle.pg_match.proofs.Firsts.{turn_found, turn_on}
use Rattle.pg_match.proofs.searching.+search.Goals as goal

pub in_terms-returns-in-Some : goal.in_terms-returns-in-Some
in_terms-returns-in-Some t c =
    turn_found (term_instance (term c.args.pattern.now) c.args.holes) c.args.ts.now c.loop-t.t-index c.t-item.result (found_values c.in-Some.found) _ c.loop-t-test.true c.t-item.is c.loop-t.invariant
    (ap (option_map found_values) (sym c.in-Some.is) ∙ c.in_ok-found.ensures)

pub in_terms-loop-t-preserved : goal.in_terms-loop-t-preserved
in_terms-loop-t-preserved t c =
    turn_on (term_instance (term c.args.pattern.now) c.args.holes) c.args.ts.now c.loop-t.t-index c.t-item.result _ c.loop-t-test.true c.t-item.is c.loop-t.invariant
    (ap (option_map found_values) (sym c.in_default.is) ∙ c.in_ok-found.ensures)
