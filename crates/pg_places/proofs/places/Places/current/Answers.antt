use Rattle.pg_places.specs.View.{there}
use Rattle.pg_places.proofs.Distinct.{current-told}
use Rattle.pg_places.proofs.places.Places.current.Goals as goal

pub returns-clause-of_text : goal.returns-clause-of_text
returns-clause-of_text c = λ before s. current-told (there c.args.self.now) before s
