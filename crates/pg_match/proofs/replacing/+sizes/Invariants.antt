use Rattle.std.proofs.Common.{◌≡◌, ◌-◌, ◌^◌, min, take}
use Rattle.pg_logic.specs.Tree.{Tm, nodes, nodes_all}
use Rattle.pg_terms.specs.View.{term, args}
use Rattle.pg_moves.specs.Replaced.{replaced_all}
use Rattle.pg_match.proofs.replacing.+sizes.Given as goal

abbrev pub invariant-all_size-loop-t : goal.invariant-all_size-loop-t
invariant-all_size-loop-t l =
    (n : Tm) → l.by ≡ min (nodes n) (2 ^ 64 - 1) → l.sum ≡ min (nodes_all (replaced_all (term l.old) n (args (take l.t-index l.ts)))) (2 ^ 64 - 1)
