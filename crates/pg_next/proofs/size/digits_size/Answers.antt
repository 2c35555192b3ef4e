use Rattle.std.proofs.Common.{◌≡◌, ◌∙◌, sym as flip, length, arith}
use Rattle.pg_next.proofs.Digits.{so-far-next, no-digits, all-read, digits-text, some-of}
use Rattle.pg_next.proofs.size.digits_size.Goals as goal

pub loop-digit-preserved : goal.loop-digit-preserved
loop-digit-preserved c =
    let digit = flip c.is_ascii_digit.ensures.value ∙ c.if-not-is_ascii_digit.false in
    so-far-next c.args.digits.now c.loop-digit.digit-index c.loop-digit.value c.capped-value.result c.loop-digit-test.true digit c.capped-value.ensures.value c.loop-digit.invariant

pub returns-then-not-is_ascii_digit : goal.returns-then-not-is_ascii_digit
returns-then-not-is_ascii_digit c =
    let other = flip c.is_ascii_digit.ensures.value ∙ c.if-not-is_ascii_digit.true in
    no-digits c.args.digits.now c.loop-digit.digit-index c.loop-digit.value c.loop-digit-test.true other c.loop-digit.invariant

pub returns-in-Err : goal.returns-in-Err
returns-in-Err c =
    let ds = c.args.digits.now in
    let end : c.loop-digit.digit-index ≡ length ds = omega (arith, c.loop-digit-test.false, c.loop-digit.auto.digit-index-end) in
    let some = some-of c.is_empty.result (length ds) c.is_empty.ensures c.if-is_empty.false in
    let read = all-read ds c.loop-digit.digit-index c.loop-digit.value end some c.loop-digit.invariant in
    absurd (c.in-Err.ensures.cases.0 (digits-text ds read.digits))
