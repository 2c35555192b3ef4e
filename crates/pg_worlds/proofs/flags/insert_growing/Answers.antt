use Rattle.std.proofs.Common.{arith, ◌<◌, vec_len}
use Rattle.pg_worlds.proofs.flags.insert_growing.Goals as goal

pub add_all-requires : goal.add_all-requires
add_all-requires g c = λ k e. let h : k < vec_len c.make_room.new.flags = c.in_ok-make_room.ensures.room k e in omega (arith, c.as_mut_slice.ensures.len)
