use Rattle.pg_worlds.proofs.OneOrder.{one_order}
use Rattle.pg_worlds.proofs.graph.world_order_law.Goals as goal

pub returns : goal.returns
returns c = one_order
