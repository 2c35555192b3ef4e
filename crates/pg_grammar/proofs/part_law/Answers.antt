use Rattle.pg_grammar.proofs.Unique.{part-law}
use Rattle.pg_grammar.proofs.part_law.Goals as goal

pub returns : goal.returns
returns c = part-law
