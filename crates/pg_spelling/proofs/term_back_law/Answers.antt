use Rattle.pg_spelling.proofs.Back.{term-back-law}
use Rattle.pg_spelling.proofs.term_back_law.Goals as goal

pub returns : goal.returns
returns c = term-back-law
