use Rattle.std.proofs.Common.{arith}
use Rattle.pg_terms.specs.View.{term}
use Rattle.pg_match.specs.View.{values}
use Rattle.pg_match.specs.Walks.{lent}
use Rattle.pg_match.proofs.Instancing.{no_instance, an_instance}
use Rattle.pg_match.proofs.matching.found_term.Goals as goal

pub returns-then-not-walk : goal.returns-then-not-walk
returns-then-not-walk c = λ n h e. no_instance (term c.args.pattern.now) n (term c.args.subject.now) (lent c.args.values.now) h e (c.if-not-walk.ensures 0 (omega arith))

pub returns : goal.returns
returns c = λ n h e.
    an_instance (term c.args.pattern.now) n (term c.args.subject.now) (lent c.args.values.now) (lent c.walk.new.values) (values c.in_ok-values.values) h e (c.if-not-walk.ensures 0 (omega arith)) c.in_ok-values.ensures
