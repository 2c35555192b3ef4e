use Rattle.pg_shape.specs.View.{shape as shape_in}
use Rattle.pg_syntax.specs.Steps.{nodes}
use Rattle.pg_syntax.proofs.term.+term.Given as goal

abbrev pub decreases-arguments : goal.decreases-arguments
decreases-arguments l = nodes (shape_in l.applied.now)

abbrev pub decreases-term : goal.decreases-term
decreases-term l = nodes (shape_in l.shape.now)
