use Rattle.std.proofs.Common.{◌∙◌, sym, ap, ℕ, List, Option}
use Rattle.pg_places.specs.declared.world.World.{World}
use Rattle.pg_places.specs.Held.{its_levels, read_at}
use Rattle.pg_places.specs.There.{levels_at}
use Rattle.pg_places.specs.View.{there, helds}
use Rattle.pg_places.proofs.Told.{levels-told}
use Rattle.pg_places.proofs.places.Places.level_number.Goals as goal

pub returns-in-Some-clause-of_text : goal.returns-in-Some-clause-of_text
returns-in-Some-clause-of_text c =
    λ before s.
    c.levels_at.ensures
    ∙ ap (λ (ws : List World). read_at its_levels 0 c.in-Some.place (helds ws)) c.as_slice.ensures.value
    ∙ sym (ap (λ (o : Option ℕ). levels_at o (helds c.args.self.now.worlds.items)) c.in-Some.is)
    ∙ levels-told (there c.args.self.now) before s

pub returns-in-None-clause-of_text : goal.returns-in-None-clause-of_text
returns-in-None-clause-of_text c =
    λ before s. sym (ap (λ (o : Option ℕ). levels_at o (helds c.args.self.now.worlds.items)) c.in-None.is) ∙ levels-told (there c.args.self.now) before s
