use Rattle.pg_grammar.proofs.Reader.{nesting-law}
use Rattle.pg_grammar.proofs.nesting_law.Goals as goal

pub returns : goal.returns
returns c = nesting-law
