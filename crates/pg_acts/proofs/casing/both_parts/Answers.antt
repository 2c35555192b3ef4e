use Rattle.pg_script.specs.View.{words}
use Rattle.pg_terms.specs.View.{formula}
use Rattle.pg_goal.specs.View.{goal_of, lookup_of}
use Rattle.pg_acts.proofs.Parts.{both-second}
use Rattle.pg_acts.proofs.casing.both_parts.Goals as goal

pub returns : goal.returns
returns c =
    both-second (lookup_of c.args.lookup.now) (goal_of c.args.goal.now) (goal_of c.in_ok-between.between) c.args.name.now (words c.args.names.now) (formula c.args.a.now) (formula c.args.b.now)
    c.in_ok-x.x _ c.second_part.result c.in_ok-x.ensures c.in_ok-between.ensures c.second_part.ensures
