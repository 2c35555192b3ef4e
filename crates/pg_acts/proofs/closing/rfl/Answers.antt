use Rattle.pg_goal.specs.View.{goal_of, lookup_of}
use Rattle.pg_acts.proofs.Does.{does-rfl}
use Rattle.pg_acts.proofs.closing.rfl.Goals as goal

pub returns : goal.returns
returns c = does-rfl (lookup_of c.args.lookup.now) (goal_of c.args.goal.now) c.requires c.reflexivity.result c.reflexivity.ensures
