use Rattle.std.proofs.Common.{ap, sym, ◌∙◌}
use Rattle.std.specs.Prelude.{Ok}
use Rattle.pg_script.specs.View.{words}
use Rattle.pg_goal.specs.View.{goal_of, lookup_of}
use Rattle.pg_acts.proofs.Parts.{words-rest}
use Rattle.pg_inducts.proofs.Named.{hypothesis-made}
use Rattle.pg_inducts.proofs.inducting.by_hypothesis.Goals as goal

pub returns : goal.returns
returns c = (
  hypothesis-made (lookup_of c.args.lookup.now) (goal_of c.args.goal.now) (goal_of c.args.rest) c.args.k (words c.args.names.now) (words c.after_first.result.now)
      (words-rest c.args.names.now c.after_first.result.now c.after_first.ensures) c.in_ok-h.h c.in_ok-h.ensures
      ∙ ap Ok (sym c.in_ok-made.ensures.0),
  c.in_ok-made.ensures.1,
)
