use Rattle.std.proofs.Common.{◌≡◌, ◌-◌, ◌^◌, ℕ, List, take}
use Rattle.std.specs.Prelude.{min}
use Rattle.pg_logic.specs.Tree.{Tm}
use Rattle.pg_terms.specs.View.{args}
use Rattle.pg_match.specs.Sizes.{AreSizes, all_nodes, all_height}
use Rattle.pg_match.proofs.sizing.+sizes.Given as goal

abbrev pub invariant-all_size-loop-t : goal.invariant-all_size-loop-t
invariant-all_size-loop-t l = record {
  nodes : (d : ℕ) (us : List Tm) → l.depth ≡ min d (2 ^ 64 - 1) → AreSizes us l.values → l.size.nodes ≡ min (all_nodes d us (args (take l.t-index l.ts))) (2 ^ 64 - 1);
  height : (d : ℕ) (us : List Tm) → l.depth ≡ min d (2 ^ 64 - 1) → AreSizes us l.values → l.size.height ≡ min (all_height d us (args (take l.t-index l.ts))) (2 ^ 32 - 1);
}
