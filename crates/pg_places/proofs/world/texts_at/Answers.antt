use Rattle.std.proofs.Common.{◌∙◌, ap}
use Rattle.pg_places.specs.Held.{its_texts, no_texts}
use Rattle.pg_places.specs.View.{held}
use Rattle.pg_places.proofs.Seen.{read-some, read-past}
use Rattle.pg_places.specs.declared.world.World.{World}
use Rattle.pg_places.proofs.world.texts_at.Goals as goal

pub returns-in-Some : goal.returns-in-Some
returns-in-Some c =
    ap (λ (w : World). its_texts (held w)) c.in-Some.ensures.lookup.1
    ∙ read-some its_texts no_texts c.args.worlds.now c.args.place c.in-Some.world.now c.in-Some.ensures.lookup.3.0

pub returns-in-None : goal.returns-in-None
returns-in-None c = c.none.ensures ∙ read-past its_texts no_texts c.args.worlds.now c.args.place c.in-None.ensures.lookup.3
