use Rattle.pg_grammar.proofs.Unique.{spelled-law}
use Rattle.pg_grammar.proofs.spelled_law.Goals as goal

pub returns : goal.returns
returns c = spelled-law
