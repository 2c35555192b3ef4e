use Rattle.std.proofs.Common.{◌≡◌, ◌-◌, ◌^◌, ℕ, min, take}
use Rattle.pg_logic.specs.Tree.{Tm, nodes}
use Rattle.pg_terms.specs.View.{args}
use Rattle.pg_goal.specs.Sizes.{all_opened_nodes}
use Rattle.pg_goal.proofs.opened.+size.Given as goal

abbrev pub invariant-all_size-loop-t : goal.invariant-all_size-loop-t
invariant-all_size-loop-t l =
    (s : Tm) (d : ℕ) → l.by ≡ min (nodes s) (2 ^ 64 - 1) → l.depth ≡ min d (2 ^ 64 - 1) → l.sum ≡ min (all_opened_nodes s d (args (take l.t-index l.ts))) (2 ^ 64 - 1)
