use Rattle.pg_spelling.proofs.Back.{back-law}
use Rattle.pg_spelling.proofs.back_law.Goals as goal

pub returns : goal.returns
returns c = back-law
