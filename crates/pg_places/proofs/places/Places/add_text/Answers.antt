use Rattle.std.proofs.Common.{◌∙◌, ap, List}
use Rattle.pg_commands.specs.View.{which}
use Rattle.std.specs.Vec.{with_items}
use Rattle.std.proofs.lemmas.List.{with_items_is}
use Rattle.pg_places.specs.declared.world.World.{World}
use Rattle.pg_places.specs.Held.{changed_at, with_text}
use Rattle.pg_places.specs.View.{there, helds}
use Rattle.pg_places.proofs.Steps.{follows-world_text_as}
use Rattle.pg_places.proofs.places.Places.add_text.Goals as goal

pub returns-in-Some : goal.returns-in-Some
returns-in-Some c =
    follows-world_text_as (there c.args.self.now) (which c.args.kind) c.args.at c.in-Some.place (helds (with_items c.args.self.now.worlds c.add_text_at.new.worlds).items) c.if-self.false c.in-Some.is
    (ap helds (with_items_is c.args.self.now.worlds c.add_text_at.new.worlds (c.add_text_at.auto.worlds ∙ c.as_mut_slice.ensures.len))
    ∙ c.add_text_at.ensures
    ∙ ap (λ (ws : List World). changed_at (with_text (which c.args.kind) c.args.at) c.in-Some.place (helds ws)) c.as_mut_slice.ensures.value)
