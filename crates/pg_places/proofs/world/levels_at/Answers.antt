use Rattle.std.proofs.Common.{◌∙◌, ap}
use Rattle.pg_places.specs.Held.{its_levels}
use Rattle.pg_places.specs.View.{held}
use Rattle.pg_places.proofs.Seen.{read-some, read-past}
use Rattle.pg_places.specs.declared.world.World.{World}
use Rattle.pg_places.proofs.world.levels_at.Goals as goal

pub returns-in-Some : goal.returns-in-Some
returns-in-Some c =
    ap (λ (w : World). its_levels (held w)) c.in-Some.ensures.lookup.1
    ∙ read-some its_levels 0 c.args.worlds.now c.args.place c.in-Some.world.now c.in-Some.ensures.lookup.3.0

pub returns-in-None : goal.returns-in-None
returns-in-None c = read-past its_levels 0 c.args.worlds.now c.args.place c.in-None.ensures.lookup.3
