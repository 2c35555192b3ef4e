use Rattle.std.proofs.Common.{◌∙◌, ap, List}
use Rattle.std.specs.Vec.{with_items}
use Rattle.std.proofs.lemmas.List.{with_items_is}
use Rattle.pg_places.specs.declared.world.World.{World}
use Rattle.pg_places.specs.Held.{one_more_level}
use Rattle.pg_places.specs.There.{counted_at}
use Rattle.pg_places.specs.View.{there, helds}
use Rattle.pg_places.proofs.Steps.{follows-level_as}
use Rattle.pg_places.proofs.places.Places.add_level.Goals as goal

pub returns : goal.returns
returns c =
    follows-level_as (there c.args.self.now) c.args.at (helds (with_items c.args.self.now.worlds c.add_level.new.worlds).items) c.none-self.result c.requires
    (ap helds (with_items_is c.args.self.now.worlds c.add_level.new.worlds (c.add_level.auto.worlds ∙ c.as_mut_slice.ensures.len))
    ∙ c.add_level.ensures
    ∙ ap (λ (ws : List World). counted_at c.args.self.now.current one_more_level (helds ws)) c.as_mut_slice.ensures.value)
    c.none-self.ensures
