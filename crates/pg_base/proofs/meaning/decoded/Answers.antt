use Rattle.std.proofs.Common.{rules, sym, ap, ◌∙◌, string_bytes, false}
use Rattle.std.specs.Str.{encode_utf8_all, chars}
use Rattle.pg_base.specs.Meaning.{decoded}
use Rattle.pg_base.proofs.Decoding.{at_end, turn-blank, turn-backslash, turn-plain, spelling-decoded}
use Rattle.pg_base.proofs.meaning.decoded.Goals as goal

pub loop-c-preserved-then-is_passed : goal.loop-c-preserved-then-is_passed
loop-c-preserved-then-is_passed c = (search rules, turn-blank _ _ _ _ _ _ c.in-Some.ensures.front (sym c.if-is_passed.ensures) c.loop-c.invariant.1)

pub loop-c-preserved-then-c-eq92 : goal.loop-c-preserved-then-c-eq92
loop-c-preserved-then-c-eq92 c = (search rules, turn-backslash _ (string_bytes c.push_behind.new.text) _ _ _ (chars c.in_ok-passing.field-0-1.now) _ c.in_ok-passing.field-0-0 _ c.in-Some.ensures.front c.if-c-eq92.true c.in_ok-passing.ensures.meant c.loop-c.invariant.1)

pub loop-c-preserved : goal.loop-c-preserved
loop-c-preserved c = (search rules, turn-plain _ _ _ _ _ _ _ c.in-Some.ensures.front (sym c.if-is_passed.ensures) c.if-c-eq92.false c.in_ok-push.ensures.bytes c.loop-c.invariant.1)

pub returns-clause-spelled : goal.returns-clause-spelled
returns-clause-spelled c = λ t e.
    at_end _ _ _ _ c.in_default.ensures.front c.loop-c.invariant.1
    ∙ ap (λ cs. encode_utf8_all (decoded false cs)) e
    ∙ ap encode_utf8_all (spelling-decoded t)
