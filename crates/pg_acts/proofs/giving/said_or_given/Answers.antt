use Rattle.std.proofs.Common.{rules, ◌≡◌, true}
use Rattle.pg_logic.specs.Tree.{same_formula}
use Rattle.pg_kernel.specs.View.{proof}
use Rattle.pg_terms.specs.View.{formula}
use Rattle.pg_goal.specs.View.{goal_of, lookup_of}
use Rattle.pg_acts.specs.Giving.{lent}
use Rattle.pg_acts.proofs.Known.{known-ok, known-said}
use Rattle.pg_acts.proofs.giving.said_or_given.Goals as goal

pub returns-in_default-clause-known : goal.returns-in_default-clause-known
returns-in_default-clause-known c = known-ok (lookup_of c.args.lookup.now) (goal_of c.args.goal.now) c.requires.ready c.given_there.result c.given_there.ensures.proved

pub returns-clause-known : goal.returns-clause-known
returns-clause-known c =
    let x = c.in_ok-formula.field-0 in
    let same : same_formula (formula x.formula) (formula c.in_ok-a.a) ≡ true = search rules in
    known-said (lookup_of c.args.lookup.now) (goal_of c.args.goal.now) c.requires.ready (lent c.in-Some.piece) (formula c.in_ok-a.a) (formula x.formula) (proof x.proof) c.in_ok-a.ensures c.in_ok-formula.ensures.proved same
