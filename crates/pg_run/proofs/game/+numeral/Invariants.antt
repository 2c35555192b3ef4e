use Rattle.std.proofs.Common.{◌+◌, ◌*◌}
use Rattle.pg_run.proofs.game.+numeral.Given as goal

abbrev pub decreases-argument_at : goal.decreases-argument_at
decreases-argument_at l = 3 * l.budget + 1

abbrev pub decreases-inside_at : goal.decreases-inside_at
decreases-inside_at l = 3 * l.budget

abbrev pub decreases-numeral_at : goal.decreases-numeral_at
decreases-numeral_at l = 3 * l.budget + 2
