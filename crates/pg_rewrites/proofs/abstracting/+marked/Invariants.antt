use Rattle.std.proofs.Common.{◌≡◌, take}
use Rattle.pg_moves.specs.Replaced.{abstracted_all}
use Rattle.pg_terms.specs.View.{term, args}
use Rattle.pg_rewrites.proofs.abstracting.+marked.Given as goal

abbrev pub invariant-marked_all-loop-t : goal.invariant-marked_all-loop-t
invariant-marked_all-loop-t l = args l.made ≡ abstracted_all (term l.mark.old.now) l.depth (args (take l.t-index l.ts))
