use Rattle.pg_spelling.proofs.TextBack.{term-text-law}
use Rattle.pg_spelling.proofs.term_text_law.Goals as goal

pub returns : goal.returns
returns c = term-text-law
