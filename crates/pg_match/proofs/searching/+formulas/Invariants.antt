use Rattle.std.proofs.Common.{◌+◌, ◌*◌}
use Rattle.pg_logic.specs.Tree.{nodes_of}
use Rattle.pg_terms.specs.View.{formula}
use Rattle.pg_match.proofs.searching.+formulas.Given as goal

abbrev pub decreases-in_formula : goal.decreases-in_formula
decreases-in_formula l = 2 * nodes_of (formula l.a.now)

abbrev pub decreases-in_either : goal.decreases-in_either
decreases-in_either l = 2 * nodes_of (formula l.a.now) + 2 * nodes_of (formula l.b.now) + 1
