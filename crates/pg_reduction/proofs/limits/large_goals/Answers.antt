use Rattle.std.proofs.Common.{◌≡◌, ◌+◌, drop, map, None, ap, sym, ◌∙◌}
use Rattle.std.specs.Prelude.{flat_map, option_map}
use Rattle.pg_moves.specs.Measures.{first_over, goal_measures}
use Rattle.pg_goal.specs.View.{goal_of}
use Rattle.pg_reduction.specs.Limits.{told}
use Rattle.pg_reduction.specs.View.{cause_of}
use Rattle.pg_reduction.proofs.Large.{first-dropped, found-large, goes-on}
use Rattle.pg_reduction.proofs.limits.large_goals.Goals as goal

pub returns-in-Some : goal.returns-in-Some
returns-in-Some c =
    let gs = c.args.goals.now in
    let i = c.loop-goal.goal-index in
    let g = c.goal-item.result in
    let e = first-dropped goal_of goal_measures gs i g c.loop-goal-test.true c.goal-item.is in
    found-large (first_over (goal_measures (goal_of g))) (first_over (flat_map goal_measures (map goal_of (drop (i + 1) gs)))) (first_over (flat_map goal_measures (map goal_of gs))) c.in-Some.cause
    (c.loop-goal.invariant ∙ e) c.in-Some.ensures

pub loop-goal-preserved : goal.loop-goal-preserved
loop-goal-preserved c =
    let gs = c.args.goals.now in
    let i = c.loop-goal.goal-index in
    let g = c.goal-item.result in
    let a = first_over (goal_measures (goal_of g)) in
    let e = first-dropped goal_of goal_measures gs i g c.loop-goal-test.true c.goal-item.is in
    let n : None ≡ option_map told a = sym (ap (option_map cause_of) c.in_default.is) ∙ c.first_large_goal.ensures in
    c.loop-goal.invariant ∙ goes-on a (first_over (flat_map goal_measures (map goal_of (drop (i + 1) gs)))) (first_over (flat_map goal_measures (map goal_of (drop i gs)))) e n
