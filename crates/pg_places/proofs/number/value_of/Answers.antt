use Rattle.std.proofs.Common.{◌≡◌, ◌∙◌, ◌<◌, ◌+◌, ◌*◌, ◌-◌, length, take, get_or, ap, arith}
use Rattle.std.proofs.lemmas.List.{take_more}
use Rattle.pg_gametext.specs.Checks.{digits_value}
use Rattle.pg_places.proofs.Digits.{digits-more}
use Rattle.pg_places.proofs.number.value_of.Goals as goal

pub loop-digit-preserved : goal.loop-digit-preserved
loop-digit-preserved c =
    let digits = c.args.digits.now in
    let i = c.loop-digit.digit-index in
    let within : i < length digits = omega arith in
    let more : digits_value 0 (take (i + 1) digits) ≡ digits_value 0 (take i digits) * 10 + (get_or digits i 0 - 48) =
    ap (digits_value 0) (take_more digits i 0 within) ∙ digits-more 0 (take i digits) (get_or digits i 0) in
    omega (arith, c.saturating_add-value.ensures, c.loop-digit.invariant, c.saturating_sub.ensures, c.saturating_mul.ensures, c.from.ensures, more)
