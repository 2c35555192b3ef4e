use Rattle.pg_goal.specs.View.{goal_of, lookup_of}
use Rattle.pg_acts.proofs.Does.{does-both}
use Rattle.pg_acts.proofs.closing.constructor.Goals as goal

pub returns : goal.returns
returns c = does-both (lookup_of c.args.lookup.now) (goal_of c.args.goal.now) c.requires c.both_sides.result c.both_sides.ensures
