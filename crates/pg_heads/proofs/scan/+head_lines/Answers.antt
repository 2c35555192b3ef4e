use Rattle.std.proofs.Common.{List, ℕ, ◌∙◌, ◌+◌, ◌-◌, sym as flip, ap}
use Rattle.pg_messages.specs.Head.{is_empty_line, later, head_lines}
use Rattle.pg_heads.proofs.Lines.{lines-zero, lines-open, lines-ended, lines-next}
use Rattle.pg_heads.proofs.scan.+head_lines.Goals as goal

pub returns-then-most-eq0 : goal.returns-then-most-eq0
returns-then-most-eq0 t c = lines-zero c.args.blank c.args.passed c.args.most c.args.bytes.now c.if-most-eq0.true

pub returns-in_default : goal.returns-in_default
returns-in_default t c = lines-open c.args.blank c.args.passed c.args.most c.args.bytes.now c.if-most-eq0.false (flip c.in_default.is ∙ c.line_len.ensures.value)

pub returns-then-is_empty_line : goal.returns-then-is_empty_line
returns-then-is_empty_line t c =
    let line = flip (ap is_empty_line c.split_at.ensures.front) ∙ flip c.is_empty_line.ensures ∙ c.if-is_empty_line.true in
    lines-ended c.args.blank c.args.passed c.args.most c.args.bytes.now c.in-Some.size c.if-most-eq0.false (flip c.in-Some.is ∙ c.line_len.ensures.value) line

pub returns : goal.returns
returns t c =
    let line = flip (ap is_empty_line c.split_at.ensures.front) ∙ flip c.is_empty_line.ensures ∙ c.if-is_empty_line.false in
    c.head_lines.ensures
    ∙ ap (λ (b : List ℕ). later (c.args.passed + c.in-Some.size) (head_lines c.args.blank (c.args.most - 1) b)) c.split_at.ensures.back
    ∙ lines-next c.args.blank c.args.passed c.args.most c.args.bytes.now c.in-Some.size c.if-most-eq0.false (flip c.in-Some.is ∙ c.line_len.ensures.value) line
