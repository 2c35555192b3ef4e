use Rattle.pg_terms.specs.View.{term, formula}
use Rattle.pg_rewrites.proofs.Depths.{depth-small}
use Rattle.pg_rewrites.proofs.exchanging.exchanged.Goals as goal

pub aimed-requires : goal.aimed-requires
aimed-requires c = depth-small (term c.args.e.old) (term c.args.e.new) (formula c.args.goal.now.target) c.requires
