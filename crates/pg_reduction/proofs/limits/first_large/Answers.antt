use Rattle.std.proofs.Common.{◌++◌, map}
use Rattle.pg_goal.specs.View.{goal_of}
use Rattle.pg_reduction.proofs.Large.{large-both}
use Rattle.pg_reduction.proofs.limits.first_large.Goals as goal

pub returns : goal.returns
returns c = λ rest h. large-both (map goal_of c.args.new.now) (map goal_of c.args.new.now ++ rest) c.large_goals.result c.large_block.result c.or.result c.large_goals.ensures (c.large_block.ensures rest h) c.or.ensures
