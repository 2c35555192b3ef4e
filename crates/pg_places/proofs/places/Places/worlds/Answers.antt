use Rattle.std.proofs.Common.{sym, subst, List}
use Rattle.pg_places.specs.declared.world.World.{World}
use Rattle.pg_places.specs.There.{AreWorlds}
use Rattle.pg_places.specs.View.{helds, there}
use Rattle.pg_places.proofs.Distinct.{worlds-told}
use Rattle.pg_places.proofs.places.Places.worlds.Goals as goal

pub returns-clause-of_text : goal.returns-clause-of_text
returns-clause-of_text c =
    λ before s. subst (λ (ws : List World). AreWorlds (helds ws) before) (sym c.as_slice.ensures.value) (worlds-told (there c.args.self.now) before s)
