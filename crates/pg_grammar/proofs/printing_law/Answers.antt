use Rattle.pg_grammar.proofs.Printing.{printing-law}
use Rattle.pg_grammar.proofs.printing_law.Goals as goal

pub returns : goal.returns
returns c = printing-law
