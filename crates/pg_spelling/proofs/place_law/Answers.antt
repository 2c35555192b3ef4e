use Rattle.pg_spelling.proofs.Unplaced.{place-law}
use Rattle.pg_spelling.proofs.place_law.Goals as goal

pub returns : goal.returns
returns c = place-law
