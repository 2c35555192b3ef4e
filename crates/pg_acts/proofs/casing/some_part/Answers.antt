use Rattle.std.proofs.Common.{[], ◌∷◌, ap, sym, ◌∙◌}
use Rattle.std.specs.Prelude.{Ok}
use Rattle.pg_terms.specs.View.{formula}
use Rattle.pg_moves.specs.Goals.{with_var}
use Rattle.pg_goal.specs.View.{goal_of, lookup_of}
use Rattle.pg_moves.specs.Frames.{open_up}
use Rattle.pg_kernel.specs.View.{proof}
use Rattle.pg_acts.proofs.Parts.{rest-texts, some-made, some-stops}
use Rattle.pg_acts.proofs.casing.some_part.Goals as goal

pub new_name-requires-2 : goal.new_name-requires-2
new_name-requires-2 c = rest-texts c.args.names.now c.after_first.result.now c.after_first.ensures c.requires.names

pub returns : goal.returns
returns c = (
  some-made (lookup_of c.args.lookup.now) (goal_of c.args.goal.now) (goal_of c.in_ok-between.between) c.args.name.now c.args.z.now c.args.names.now c.after_first.result.now (formula c.args.a.now)
      c.in_ok-x.x c.in_ok-y.y c.var_count-newest.result c.in_ok-x.ensures (c.in_ok-between.ensures ∙ ap (λ q. with_var c.in_ok-x.x (goal_of q)) c.in_ok-copied.ensures) c.after_first.ensures c.var_count-newest.ensures c.in_ok-y.ensures
      ∙ ap Ok (sym c.in_ok-made.ensures.0),
  c.in_ok-made.ensures.1,
)

pub returns-in_err-y : goal.returns-in_err-y
returns-in_err-y c =
    some-stops (lookup_of c.args.lookup.now) (goal_of c.args.goal.now) (goal_of c.in_ok-between.between) c.args.name.now c.args.z.now c.args.names.now c.after_first.result.now (formula c.args.a.now)
    c.in_ok-x.x (open_up (formula c.args.a.now) (proof c.args.d) ∷ []) c.in_err-y.field-0.0 c.from_residual-in_err-y.result
    c.in_ok-x.ensures (c.in_ok-between.ensures ∙ ap (λ q. with_var c.in_ok-x.x (goal_of q)) c.in_ok-copied.ensures) c.after_first.ensures c.in_err-y.ensures c.from_residual-in_err-y.ensures
