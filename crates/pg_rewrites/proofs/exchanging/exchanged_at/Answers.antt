use Rattle.pg_terms.specs.View.{term, formula}
use Rattle.pg_rewrites.proofs.Depths.{depth-small}
use Rattle.pg_rewrites.proofs.exchanging.exchanged_at.Goals as goal

pub said-requires-clause-depth : goal.said-requires-clause-depth
said-requires-clause-depth c = depth-small (term c.args.e.old) (term c.args.e.new) (formula c.args.f.now.hyp.now.formula) c.requires
