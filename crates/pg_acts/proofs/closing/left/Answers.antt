use Rattle.pg_goal.specs.View.{goal_of, lookup_of}
use Rattle.pg_acts.proofs.Does.{does-left}
use Rattle.pg_acts.proofs.closing.left.Goals as goal

pub returns : goal.returns
returns c = does-left (lookup_of c.args.lookup.now) (goal_of c.args.goal.now) c.requires c.left_side.result c.left_side.ensures
