use Rattle.std.proofs.Common.{arith, ◌<◌}
use Rattle.pg_worlds.proofs.Places.{places_below}
use Rattle.pg_worlds.proofs.inventory.moves_within.Goals as goal

pub add_all-requires : goal.add_all-requires
add_all-requires c = λ k e. let l : k < 16 = places_below c.as_slice.result.now k e in omega arith
