use Rattle.pg_base.specs.Tokens.{word}
use Rattle.pg_goal.specs.View.{goal_of, lookup_of}
use Rattle.pg_acts.proofs.Does.{does-intro}
use Rattle.pg_acts.proofs.closing.intro.Goals as goal

pub returns : goal.returns
returns c = does-intro (lookup_of c.args.lookup.now) (goal_of c.args.goal.now) c.requires.ready (word c.args.name.now) c.introduced.result c.introduced.ensures
