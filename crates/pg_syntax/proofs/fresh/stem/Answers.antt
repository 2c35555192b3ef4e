use Rattle.std.proofs.Common.{◌≡◌, ◌∙◌, ◌-◌, take, sym, ap, arith, false, true, get_or}
use Rattle.std.specs.Char.{is_ascii_digit}
use Rattle.pg_spelling.specs.Fresh.{stem}
use Rattle.pg_syntax.proofs.Lists.{stem-shorter, stem-whole}
use Rattle.pg_syntax.proofs.fresh.stem.Goals.{then-loop-end-test+else-is_ascii_digit, else-loop-end-test}
use Rattle.pg_syntax.proofs.fresh.stem.Goals as goal

pub loop-end-preserved : goal.loop-end-preserved
loop-end-preserved c =
    let digit : is_ascii_digit (get_or c.as_bytes-bytes.result.now (c.loop-end.end - 1) 0) ≡ true = sym c.is_ascii_digit.ensures.value ∙ c.if-is_ascii_digit.true in
    record {
      within = omega arith;
      same = sym (stem-shorter c.as_bytes-bytes.result.now c.loop-end.end 0 (omega arith) c.loop-end.invariant.within digit) ∙ c.loop-end.invariant.same;
      ends = λ _. digit;
    }

pub returns : goal.returns
returns c =
    elim c.loop-end-test.branch [
      | then-loop-end-test+else-is_ascii_digit w ↦
          let other : is_ascii_digit (get_or c.as_bytes-bytes.result.now (c.loop-end.end - 1) 0) ≡ false = sym w.is_ascii_digit.ensures.value ∙ w.if-is_ascii_digit.false in
          c.split_at.ensures.front ∙ ap (take c.loop-end.end) (sym c.as_bytes-bytes.ensures.value)
          ∙ sym (stem-whole c.as_bytes-bytes.result.now c.loop-end.end 0 (omega arith) c.loop-end.invariant.within other)
          ∙ c.loop-end.invariant.same ∙ ap stem c.as_bytes-bytes.ensures.value
      | else-loop-end-test w ↦
          let end : c.loop-end.end ≡ 0 = omega arith in
          c.split_at.ensures.front ∙ ap (λ n. take n c.args.name.now) end ∙ ap (λ n. stem (take n c.as_bytes-bytes.result.now)) (sym end)
          ∙ c.loop-end.invariant.same ∙ ap stem c.as_bytes-bytes.ensures.value
    ]
