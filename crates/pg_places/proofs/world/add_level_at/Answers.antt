use Rattle.std.proofs.Common.{refl, arith}
use Rattle.pg_places.specs.Held.{its_levels, one_more_level}
use Rattle.pg_places.proofs.Seen.{read-some, set-some, set-past}
use Rattle.pg_places.proofs.world.add_level_at.Goals as goal

pub overflow_add-world : goal.overflow_add-world
overflow_add-world c = omega (arith, read-some its_levels 0 c.args.worlds.now c.args.place c.index-worlds-place.result c.if-place-worlds.true)

pub returns-then-place-worlds : goal.returns-then-place-worlds
returns-then-place-worlds c = set-some one_more_level c.args.worlds.now c.args.place _ c.index-worlds-place.result c.if-place-worlds.true refl

pub returns-else-place-worlds : goal.returns-else-place-worlds
returns-else-place-worlds c = set-past one_more_level c.args.worlds.now c.args.place c.if-place-worlds.false
