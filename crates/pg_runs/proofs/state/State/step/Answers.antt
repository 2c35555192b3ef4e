use Rattle.std.proofs.Common.{refl, ◌≡◌, ◌-◌, List, ◌∷◌, [], length, take, drop, subst, ap, ◌∙◌}
use Rattle.std.proofs.lemmas.List.{map-append}
use Rattle.pg_script.specs.View.{step as move_in}
use Rattle.pg_moves.specs.Steps.{step}
use Rattle.pg_goal.specs.declared.goal.Goal.{Goal}
use Rattle.pg_goal.specs.View.{goal_of, lookup_of}
use Rattle.pg_runs.specs.State.{goals_of, HaveRoom}
use Rattle.pg_reduction.specs.Limits.{AreOthers}
use Rattle.pg_runs.specs.Running.{Steps}
use Rattle.pg_runs.proofs.Carrying.{ready, counted}
use Rattle.pg_runs.proofs.Stepping.{first_of, none_of, rest_of, handed, cannot, no_goal, halted, done}
use Rattle.pg_runs.proofs.state.State.step.Goals as goal

rest_here : (xs gs : List Goal) → xs ≡ gs → take (length xs - 1) (drop 1 xs) ≡ drop 1 gs
rest_here xs gs e = rest_of xs ∙ ap (drop 1) e

pub reduced-requires : goal.reduced-requires
reduced-requires m c =
    let gs = c.args.self.now.goals in
    let here = subst (λ gs. goals_of gs ≡ goal_of c.goal-item.result ∷ goals_of (drop 1 gs)) c.as_slice.ensures (first_of c.as_slice.result.now c.goal-item.result c.goal-item.is c.in-len1-up.len_at_least) in
    let l = lookup_of c.args.lookup.now in
    let g = goal_of c.goal-item.result in
    let rest = goals_of (drop 1 gs) in
    let room = subst (HaveRoom l 1) here c.requires.room in
    let n = counted l c.requires.usable g rest room in
    record { ready = ready l c.requires.usable.sound g rest room; counted = n.0; small = n.1; written = c.requires.written; part = c.requires.part }

pub returns-in_default : goal.returns-in_default
returns-in_default m c = (
  no_goal (lookup_of c.args.lookup.now) (move_in c.args.step.now) c.args.part (goals_of c.args.self.now.goals)
      (subst (λ gs. goals_of gs ≡ []) c.as_slice.ensures (none_of c.as_slice.result.now c.in_default.len_below)) c.in_ok-can_move.ensures,
  refl,
)

pub returns : goal.returns
returns m c =
    let gs = c.args.self.now.goals in
    let here = subst (λ gs. goals_of gs ≡ goal_of c.goal-item.result ∷ goals_of (drop 1 gs)) c.as_slice.ensures (first_of c.as_slice.result.now c.goal-item.result c.goal-item.is c.in-len1-up.len_at_least) in
    done (lookup_of c.args.lookup.now) (move_in c.args.step.now) c.args.part c.args.self.now c.advance.new.self (goal_of c.goal-item.result) (goals_of (drop 1 gs)) c.in_ok-made.made
    here c.requires.part c.in_ok-can_move.ensures (λ a e. c.in_ok-made.ensures (goals_of (drop 1 gs)) a (subst (λ rest. AreOthers (goals_of rest) c.others-others.result) (rest_here c.as_slice.result.now gs c.as_slice.ensures) c.others-others.ensures) e) c.in_ok-advance.ensures.frames
    (ap goals_of c.in_ok-advance.ensures.goals ∙ map-append goal_of c.in_ok-made.made.goals (drop 1 gs))

pub returns-in_err-can_move : goal.returns-in_err-can_move
returns-in_err-can_move x c =
    let l = lookup_of c.args.lookup.now in
    let m = move_in c.args.step.now in
    let old = c.args.self.now in
    handed (Steps l (step l (goals_of old.goals) m c.args.part) old old) c.from_residual.result c.in_err-can_move.field-0.0 c.from_residual.ensures
    (cannot l m c.args.part old c.in_err-can_move.field-0.0 c.in_err-can_move.ensures)

pub returns-in_err-made : goal.returns-in_err-made
returns-in_err-made x c =
    let l = lookup_of c.args.lookup.now in
    let m = move_in c.args.step.now in
    let old = c.args.self.now in
    let gs = old.goals in
    let here = subst (λ gs. goals_of gs ≡ goal_of c.goal-item.result ∷ goals_of (drop 1 gs)) c.as_slice.ensures (first_of c.as_slice.result.now c.goal-item.result c.goal-item.is c.in-len1-up.len_at_least) in
    let f = c.in_err-made.field-0.0 in
    handed (Steps l (step l (goals_of old.goals) m c.args.part) old old) c.from_residual-in_err-made.result f c.from_residual-in_err-made.ensures
    (halted l m c.args.part old (goal_of c.goal-item.result) (goals_of (drop 1 gs)) f here c.requires.part c.in_ok-can_move.ensures
    (λ a e. c.in_err-made.ensures (goals_of (drop 1 gs)) a (subst (λ rest. AreOthers (goals_of rest) c.others-others.result) (rest_here c.as_slice.result.now gs c.as_slice.ensures) c.others-others.ensures) e))
