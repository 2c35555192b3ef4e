use Rattle.std.proofs.Common.{◌≡◌, drop, map}
use Rattle.std.specs.Prelude.{flat_map}
use Rattle.pg_moves.specs.Measures.{first_over, formula_measures}
use Rattle.pg_reduction.specs.Limits.{hyp_formula}
use Rattle.pg_reduction.proofs.limits.large_hyps.Given as goal

abbrev pub invariant-loop-hyp : goal.invariant-loop-hyp
invariant-loop-hyp l = first_over (flat_map formula_measures (map hyp_formula l.hyps)) ≡ first_over (flat_map formula_measures (map hyp_formula (drop l.hyp-index l.hyps)))
