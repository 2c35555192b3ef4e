use Rattle.pg_worlds.proofs.Placing.{all_down}
use Rattle.pg_worlds.proofs.graph.no_worlds.Goals as goal

pub returns-clause-down : goal.returns-clause-down
returns-clause-down c = all_down 64
