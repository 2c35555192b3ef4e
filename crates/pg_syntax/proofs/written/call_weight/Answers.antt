use Rattle.std.proofs.Common.{sym, ap, ◌∙◌, arith, length}
use Rattle.std.specs.Prelude.{option_map}
use Rattle.pg_shape.specs.View.{op}
use Rattle.pg_syntax.specs.Places.{scope}
use Rattle.pg_syntax.proofs.Weights.{weight-other, weight-sign, weight-no_sign, not_zero}
use Rattle.pg_syntax.proofs.written.call_weight.Goals as goal

pub returns-then-ts-ne2 : goal.returns-then-ts-ne2
returns-then-ts-ne2 c =
    sym (weight-other (scope c.args.place.now) c.args.name.now c.args.ts.now (not_zero (length c.args.ts.now) (sym c.is_empty.ensures ∙ c.if-is_empty.false)) (λ e. omega arith))

pub returns-in-Some : goal.returns-in-Some
returns-in-Some c =
    c.level.ensures
    ∙ sym (weight-sign (scope c.args.place.now) c.args.name.now c.args.ts.now (op c.in-Some.sign) (omega arith) (sym (ap (option_map op) c.in-Some.is) ∙ c.sign_named.ensures))

pub returns-in-None : goal.returns-in-None
returns-in-None c =
    sym (weight-no_sign (scope c.args.place.now) c.args.name.now c.args.ts.now (omega arith) (sym (ap (option_map op) c.in-None.is) ∙ c.sign_named.ensures))
