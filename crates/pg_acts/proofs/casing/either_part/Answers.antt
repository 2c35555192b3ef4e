use Rattle.std.proofs.Common.{[], ◌∷◌, ap, sym, ◌∙◌}
use Rattle.std.specs.Prelude.{Ok}
use Rattle.pg_terms.specs.View.{formula}
use Rattle.pg_moves.specs.Goals.{with_hyp}
use Rattle.pg_goal.specs.View.{goal_of, lookup_of}
use Rattle.pg_acts.proofs.Parts.{rest-texts, either-made}
use Rattle.pg_acts.proofs.casing.either_part.Goals as goal

pub new_name-requires-2 : goal.new_name-requires-2
new_name-requires-2 c = rest-texts c.args.names.now c.after_first.result.now c.after_first.ensures c.requires

pub returns : goal.returns
returns c =
    let g = goal_of c.args.goal.now in (
      either-made (lookup_of c.args.lookup.now) g c.args.name.now c.args.names.now c.after_first.result.now (formula c.args.a.now) (formula c.args.b.now) c.in_ok-x.x c.in_ok-y.y c.in_ok-x.ensures c.after_first.ensures c.in_ok-y.ensures
          ∙ ap (λ p. Ok (p ∷ with_hyp c.in_ok-y.y (formula c.args.b.now) g ∷ [])) (sym c.in_ok-first.ensures)
          ∙ ap (λ q. Ok (goal_of c.in_ok-first.first ∷ q ∷ [])) (sym c.in_ok-second.ensures)
          ∙ ap Ok (sym c.in_ok-made.ensures.0),
      c.in_ok-made.ensures.1,
    )
