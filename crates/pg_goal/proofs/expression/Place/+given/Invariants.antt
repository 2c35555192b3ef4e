use Rattle.std.proofs.Common.{◌≡◌, ◌+◌, ◌*◌, length, map, drop}
use Rattle.pg_terms.specs.View.{formula}
use Rattle.pg_script.specs.View.{part, expression}
use Rattle.pg_moves.specs.Expressions.{at_arguments, gives, token_count}
use Rattle.pg_goal.specs.Places.{look, spot, IsHeld}
use Rattle.pg_goal.proofs.expression.Place.+given.Given as goal

abbrev pub invariant-given-loop-arg : goal.invariant-given-loop-arg
invariant-given-loop-arg l = record {
  rest : at_arguments (look l.self) (spot l.self) (gives (look l.self) (spot l.self)) (map part (drop l.arg-index l.expr.args)) (formula l.given.formula) ≡ gives (look l.self) (spot l.self) (expression l.expr);
  held : IsHeld l.self l.given;
}

abbrev pub decreases-given : goal.decreases-given
decreases-given l = 3 * token_count (expression l.expr.now).args + 3

abbrev pub decreases-applied : goal.decreases-applied
decreases-applied l = 3 * length l.arg.now.tokens + 2

abbrev pub decreases-at_proof : goal.decreases-at_proof
decreases-at_proof l = 3 * length l.arg.now.tokens + 1
