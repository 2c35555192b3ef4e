use Rattle.std.proofs.Common.{string_bytes}
use Rattle.pg_base.specs.Tokens.{word}
use Rattle.pg_places.specs.View.{there, helds}
use Rattle.pg_places.proofs.Steps.{follows-world_as}
use Rattle.pg_places.proofs.places.Places.add_world.Goals as goal

pub returns-clause-ok : goal.returns-clause-ok
returns-clause-ok c =
    follows-world_as (there c.args.self.now) (word c.args.name.now) c.args.at c.in_ok-place.place (string_bytes c.in_ok-decoded.field-0) (helds c.place_for.new.worlds.items)
    c.in_ok-decoded.ensures.exact c.in_ok-place.ensures.worlds c.in_ok-place.ensures.place
