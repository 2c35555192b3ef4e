use Rattle.std.proofs.Common.{◌≡◌, ◌-◌, ◌^◌, ℕ, min, drop}
use Rattle.pg_logic.specs.Signature.{fits_terms}
use Rattle.pg_terms.specs.View.{args}
use Rattle.pg_arith.specs.View.{plain_functions}
use Rattle.pg_arith.proofs.fitting.+fits.Given as goal

abbrev pub invariant-terms_fit-loop-t : goal.invariant-terms_fit-loop-t
invariant-terms_fit-loop-t l =
    (d : ℕ) → l.depth ≡ min d (2 ^ 64 - 1) → fits_terms (plain_functions l.functions) l.vars d (args (drop l.t-index l.ts)) ≡ fits_terms (plain_functions l.functions) l.vars d (args l.ts)
