use Rattle.pg_goal.specs.View.{goal_of, lookup_of}
use Rattle.pg_acts.proofs.Does.{does-right}
use Rattle.pg_acts.proofs.closing.right.Goals as goal

pub returns : goal.returns
returns c = does-right (lookup_of c.args.lookup.now) (goal_of c.args.goal.now) c.requires c.right_side.result c.right_side.ensures
