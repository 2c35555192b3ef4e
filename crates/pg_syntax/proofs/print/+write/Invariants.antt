use Rattle.std.proofs.Common.{◌+◌, ◌*◌, max}
use Rattle.pg_terms.specs.declared.formula.Formula.{size-Formula}
use Rattle.pg_syntax.proofs.print.+write.Given as goal

abbrev pub decreases-write_formula : goal.decreases-write_formula
decreases-write_formula l = 5 * size-Formula l.a.now

abbrev pub decreases-write_operand : goal.decreases-write_operand
decreases-write_operand l = 5 * size-Formula l.a.now + 1

abbrev pub decreases-write_bound : goal.decreases-write_bound
decreases-write_bound l = 5 * size-Formula l.a.now + 1

abbrev pub decreases-write_both : goal.decreases-write_both
decreases-write_both l = 5 * max (size-Formula l.a.now) (size-Formula l.b.now) + 2

abbrev pub decreases-write_implication : goal.decreases-write_implication
decreases-write_implication l = 5 * max (size-Formula l.a.now) (size-Formula l.b.now) + 3
