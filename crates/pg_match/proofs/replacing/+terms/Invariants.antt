use Rattle.std.proofs.Common.{◌≡◌, take}
use Rattle.pg_terms.specs.View.{term, args}
use Rattle.pg_moves.specs.Replaced.{replaced_all}
use Rattle.pg_match.proofs.replacing.+terms.Given as goal

abbrev pub invariant-changed_all-loop-t : goal.invariant-changed_all-loop-t
invariant-changed_all-loop-t l = args l.changes ≡ replaced_all (term l.old) (term l.new) (args (take l.t-index l.ts))
