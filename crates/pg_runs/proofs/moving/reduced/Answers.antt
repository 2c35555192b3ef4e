use Rattle.std.proofs.Common.{◌++◌, None, Some, refl, subst}
use Rattle.pg_moves.specs.Measures.{first_large}
use Rattle.pg_goal.specs.View.{goal_of, lookup_of}
use Rattle.pg_reduction.specs.Limits.{Tells}
use Rattle.pg_runs.specs.State.{goals_of}
use Rattle.pg_runs.proofs.Carrying.{within, large_stops}
use Rattle.pg_runs.proofs.moving.reduced.Goals as goal

pub returns-in-None : goal.returns-in-None
returns-in-None m c rest a o e = (
  c.in_ok-made.ensures a e,
  within (lookup_of c.args.lookup.now) (first_large (goals_of c.in_ok-made.made.goals) (goals_of c.in_ok-made.made.goals ++ rest))
      (subst (λ gs. Tells (first_large (goals_of gs) (goals_of gs ++ rest)) None) c.as_slice.ensures (c.in-None.ensures rest o)),
)

pub returns-in-Some : goal.returns-in-Some
returns-in-Some m c rest a o e =
    let l = lookup_of c.args.lookup.now in
    let new = goals_of c.in_ok-made.made.goals in
    large_stops l (goal_of c.args.goal.now) rest new a (first_large new (new ++ rest)) c.in-Some.cause (c.in_ok-made.ensures a e).goals refl
    (subst (λ gs. Tells (first_large (goals_of gs) (goals_of gs ++ rest)) (Some c.in-Some.cause)) c.as_slice.ensures (c.in-Some.ensures rest o))
