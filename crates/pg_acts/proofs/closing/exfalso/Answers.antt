use Rattle.pg_goal.specs.View.{goal_of, lookup_of}
use Rattle.pg_acts.proofs.Does.{does-exfalso}
use Rattle.pg_acts.proofs.closing.exfalso.Goals as goal

pub returns : goal.returns
returns c = does-exfalso (lookup_of c.args.lookup.now) (goal_of c.args.goal.now) c.requires c.to_falsum.result c.to_falsum.ensures
