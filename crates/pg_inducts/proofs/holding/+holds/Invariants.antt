use Rattle.std.proofs.Common.{◌≡◌, drop}
use Rattle.pg_moves.specs.Holding.{hold}
use Rattle.pg_terms.specs.View.{args}
use Rattle.pg_inducts.proofs.holding.+holds.Given as goal

abbrev pub invariant-hold-loop-t : goal.invariant-hold-loop-t
invariant-hold-loop-t l = hold l.k (args (drop l.t-index l.ts)) ≡ hold l.k (args l.ts)
