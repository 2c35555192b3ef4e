use Rattle.std.proofs.Common.{◌+◌, ◌*◌, max}
use Rattle.pg_terms.specs.declared.formula.Formula.{size-Formula}
use Rattle.pg_cert.proofs.spelling.+write_formula.Given as goal

abbrev pub decreases-write_formula : goal.decreases-write_formula
decreases-write_formula l = 2 * size-Formula l.a.now

abbrev pub decreases-write_both : goal.decreases-write_both
decreases-write_both l = 2 * max (size-Formula l.a.now) (size-Formula l.b.now) + 1

abbrev pub decreases-write_bound : goal.decreases-write_bound
decreases-write_bound l = 2 * size-Formula l.a.now + 1
