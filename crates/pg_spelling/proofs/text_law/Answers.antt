use Rattle.pg_spelling.proofs.TextBack.{text-law}
use Rattle.pg_spelling.proofs.text_law.Goals as goal

pub returns : goal.returns
returns c = text-law
