use Rattle.std.proofs.Common.{◌+◌, ◌*◌, max}
use Rattle.pg_terms.specs.declared.formula.Formula.{size-Formula}
use Rattle.pg_rows.proofs.spelling.+write_formula.Given as goal

abbrev pub decreases-write_formula : goal.decreases-write_formula
decreases-write_formula l = 3 * size-Formula l.a.now

abbrev pub decreases-write_body : goal.decreases-write_body
decreases-write_body l = 3 * size-Formula l.a.now + 1

abbrev pub decreases-write_two : goal.decreases-write_two
decreases-write_two l = 3 * max (size-Formula l.a.now) (size-Formula l.b.now) + 2
