use Rattle.std.proofs.Common.{length, map, ap, ◌∙◌, subst}
use Rattle.std.specs.Prelude.{flat_map}
use Rattle.pg_spelling.specs.Named.{live}
use Rattle.pg_moves.specs.Goals.{hyp_name, var_name}
use Rattle.pg_moves.specs.Measures.{first_over, formula_measures}
use Rattle.pg_goal.specs.View.{goal_of, hyp_of, var_of}
use Rattle.pg_reduction.specs.Limits.{hyp_formula, Tells}
use Rattle.pg_reduction.proofs.Large.{large-goal, hyp-formulas}
use Rattle.pg_reduction.proofs.limits.first_large_goal.Goals as goal

pub returns : goal.returns
returns c =
    let g = c.args.goal.now in
    large-goal (goal_of g) (map hyp_formula g.hyps) c.live_vars.result c.live_hyps.result c.over.result c.over-2.result c.or.result c.large_hyps.result c.or-2.result c.large_formula.result c.or-3.result
    (hyp-formulas g.hyps)
    (c.live_vars.ensures ∙ ap (λ vs. length (live (map var_name (map var_of vs)))) c.as_slice.ensures)
    (c.live_hyps.ensures ∙ ap (λ hs. length (live (map hyp_name (map hyp_of hs)))) c.as_slice-2.ensures)
    c.over.ensures c.over-2.ensures c.or.ensures
    (subst (λ hs. Tells (first_over (flat_map formula_measures (map hyp_formula hs))) c.large_hyps.result) c.as_slice-3.ensures c.large_hyps.ensures) c.or-2.ensures
    c.large_formula.ensures c.or-3.ensures
