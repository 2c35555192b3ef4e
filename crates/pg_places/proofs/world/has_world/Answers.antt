use Rattle.std.proofs.Common.{◌∙◌}
use Rattle.pg_places.specs.View.{helds}
use Rattle.pg_places.proofs.Told.{has-some}
use Rattle.pg_places.proofs.world.has_world.Goals as goal

pub returns : goal.returns
returns c = c.is_some.ensures ∙ has-some c.args.name.now (helds c.args.worlds.now) c.place_of.result c.place_of.ensures
