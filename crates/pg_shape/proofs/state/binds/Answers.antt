use Rattle.std.proofs.Common.{◌≡◌, Option, option_map, IfOk, subst}
use Rattle.pg_grammar.specs.Machine as machine
use Rattle.pg_shape.specs.View.{quantifier}
use Rattle.pg_shape.specs.Headings.{heading}
use Rattle.pg_shape.specs.States.{stack, state}
use Rattle.pg_shape.proofs.Binding.{binds_step}
use Rattle.pg_shape.proofs.state.binds.Goals as goal

pub returns : goal.returns
returns c =
    let P : Option machine.State → Type 0 = λ x. IfOk c.named.result (λ o. option_map state o ≡ x) in
    subst P (binds_step (stack c.args.frames) c.args.at (quantifier c.args.q) (heading c.args.names) c.args.symbol c.in_default.not-Comma) c.named.ensures
