use Rattle.std.proofs.Common.{◌∙◌}
use Rattle.pg_commands.specs.View.{which}
use Rattle.pg_places.specs.View.{there}
use Rattle.pg_places.proofs.Told.{text-told}
use Rattle.pg_places.proofs.places.Places.text_fault.Goals as goal

pub returns-else-passes_over : goal.returns-else-passes_over
returns-else-passes_over c =
    λ before s.
    c.clash.ensures
    ∙ text-told (which c.args.kind) (there c.args.self.now) before s c.args.at c.passes_over.result c.place.result c.texts.result
    (c.passes_over.ensures before s) c.if-passes_over.false c.place.ensures c.texts.ensures
