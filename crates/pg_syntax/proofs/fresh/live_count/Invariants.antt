use Rattle.std.proofs.Common.{◌≡◌, ◌+◌, ◌≤◌, drop, length}
use Rattle.pg_spelling.specs.Named.{live}
use Rattle.pg_syntax.proofs.fresh.live_count.Given as goal

abbrev pub invariant-loop-var : goal.invariant-loop-var
invariant-loop-var l = (l.count + length (live (drop l.var-index l.vars)) ≡ length (live l.vars)) × (l.count ≤ l.var-index)
