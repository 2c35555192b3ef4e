use Rattle.std.proofs.Common.{map, ap, ◌∙◌}
use Rattle.pg_moves.specs.Goals.{without_var}
use Rattle.pg_goal.specs.View.{goal_of, hyp_of}
use Rattle.pg_inducts.specs.Carrying.{let_go}
use Rattle.pg_inducts.proofs.Held.{held-goal}
use Rattle.pg_inducts.proofs.carrying.without_held.Goals as goal

pub returns : goal.returns
returns c =
    held-goal (goal_of c.args.goal.now) (goal_of c.in_ok-next.next) c.args.k (map hyp_of c.in_ok-hyps.hyps)
    (c.in_ok-next.ensures ∙ ap (λ g. without_var c.args.k (goal_of g)) c.in_ok-copy.ensures) (c.in_ok-hyps.ensures ∙ ap (λ hs. map (let_go c.args.k) (map hyp_of hs)) c.as_slice.ensures)
