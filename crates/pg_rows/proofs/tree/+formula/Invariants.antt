use Rattle.std.proofs.Common.{◌+◌, ◌*◌}
use Rattle.pg_rows.proofs.tree.+formula.Given as goal

abbrev pub decreases-formula_at : goal.decreases-formula_at
decreases-formula_at l = 3 * l.fuel

abbrev pub decreases-two : goal.decreases-two
decreases-two l = 3 * l.fuel + 1

abbrev pub decreases-body : goal.decreases-body
decreases-body l = 3 * l.fuel + 1

abbrev pub decreases-universal : goal.decreases-universal
decreases-universal l = 3 * l.fuel + 2

abbrev pub decreases-existential : goal.decreases-existential
decreases-existential l = 3 * l.fuel + 2
