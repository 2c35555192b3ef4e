use Rattle.pg_shape.specs.View.{shape as shape_in}
use Rattle.pg_syntax.specs.Steps.{nodes}
use Rattle.pg_syntax.proofs.formula.+formula.Given as goal

abbrev pub decreases-formula : goal.decreases-formula
decreases-formula l = nodes (shape_in l.shape.now)
