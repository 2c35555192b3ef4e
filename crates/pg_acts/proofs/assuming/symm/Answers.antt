use Rattle.pg_goal.specs.View.{goal_of, lookup_of}
use Rattle.pg_acts.proofs.Does.{does-symm}
use Rattle.pg_acts.proofs.assuming.symm.Goals as goal

pub returns : goal.returns
returns c = does-symm (lookup_of c.args.lookup.now) (goal_of c.args.goal.now) c.requires c.symmetric.result c.symmetric.ensures
