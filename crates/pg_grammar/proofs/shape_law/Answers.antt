use Rattle.pg_grammar.proofs.Unique.{one-shape}
use Rattle.pg_grammar.proofs.shape_law.Goals as goal

pub returns : goal.returns
returns c = one-shape
