use Rattle.std.proofs.Common.{arith}
use Rattle.pg_terms.specs.View.{formula}
use Rattle.pg_match.specs.View.{values}
use Rattle.pg_match.specs.Walks.{lent}
use Rattle.pg_match.proofs.Instancing.{no_formula_instance, a_formula_instance}
use Rattle.pg_match.proofs.matching.found_formula.Goals as goal

pub returns-then-not-walk_formula : goal.returns-then-not-walk_formula
returns-then-not-walk_formula c = λ n h e. no_formula_instance (formula c.args.pattern.now) n (formula c.args.subject.now) (lent c.args.values.now) h e (c.if-not-walk_formula.ensures 0 (omega arith))

pub returns : goal.returns
returns c = λ n h e.
    a_formula_instance (formula c.args.pattern.now) n (formula c.args.subject.now) (lent c.args.values.now) (lent c.walk_formula.new.values) (values c.in_ok-values.values) h e (c.if-not-walk_formula.ensures 0 (omega arith)) c.in_ok-values.ensures
