use Rattle.std.proofs.Common.{◌≡◌, drop}
use Rattle.pg_logic.specs.Tree.{are_tight}
use Rattle.pg_terms.specs.View.{args}
use Rattle.pg_match.proofs.walking.+closed.Given as goal

abbrev pub invariant-are_closed-loop-t : goal.invariant-are_closed-loop-t
invariant-are_closed-loop-t l = are_tight 0 (args (drop l.t-index l.ts)) ≡ are_tight 0 (args l.ts)
