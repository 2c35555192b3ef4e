use Rattle.std.proofs.Common.{◌+◌, ◌*◌}
use Rattle.pg_rows.proofs.tree.+term.Given as goal

abbrev pub decreases-term_at : goal.decreases-term_at
decreases-term_at l = 3 * l.fuel

abbrev pub decreases-successor : goal.decreases-successor
decreases-successor l = 3 * l.fuel + 1

abbrev pub decreases-arguments : goal.decreases-arguments
decreases-arguments l = 3 * l.fuel + 1

abbrev pub decreases-application : goal.decreases-application
decreases-application l = 3 * l.fuel + 2
