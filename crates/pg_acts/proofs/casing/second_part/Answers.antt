use Rattle.std.proofs.Common.{ap, sym, ◌∙◌}
use Rattle.std.specs.Prelude.{Ok}
use Rattle.pg_terms.specs.View.{formula}
use Rattle.pg_goal.specs.View.{goal_of, lookup_of}
use Rattle.pg_acts.proofs.Parts.{rest-texts, second-made}
use Rattle.pg_acts.proofs.casing.second_part.Goals as goal

pub new_name-requires : goal.new_name-requires
new_name-requires c = rest-texts c.args.names.now c.after_first.result.now c.after_first.ensures c.requires

pub returns : goal.returns
returns c = (
  second-made (lookup_of c.args.lookup.now) (goal_of c.args.goal.now) c.args.name.now c.args.names.now c.after_first.result.now (formula c.args.b.now) c.in_ok-y.y c.after_first.ensures c.in_ok-y.ensures
      ∙ ap Ok (sym c.in_ok-made.ensures.0),
  c.in_ok-made.ensures.1,
)
