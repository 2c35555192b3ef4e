use Rattle.std.proofs.Common.{◌≡◌, ◌-◌, ◌^◌, ℕ, min, drop}
use Rattle.pg_logic.specs.Declarations.{first, loose_all}
use Rattle.pg_terms.specs.View.{args}
use Rattle.pg_arith.proofs.checks.+loose.Given as goal

abbrev pub invariant-loose_all-loop-t : goal.invariant-loose_all-loop-t
invariant-loose_all-loop-t l =
    (d : ℕ) → l.depth ≡ min d (2 ^ 64 - 1) → first (loose_all l.vars d (args (drop l.t-index l.ts))) ≡ first (loose_all l.vars d (args l.ts))
