use Rattle.pg_grammar.proofs.Unique.{reading-law}
use Rattle.pg_grammar.proofs.reading_law.Goals as goal

pub returns : goal.returns
returns c = reading-law
