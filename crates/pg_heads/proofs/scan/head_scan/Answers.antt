use Rattle.std.proofs.Common.{◌∙◌, sym as flip, ap, length}
use Rattle.pg_messages.specs.Head.{within_limit}
use Rattle.pg_heads.specs.View.{scan_view}
use Rattle.pg_heads.proofs.Lines.{scan-told, open-over, open-open, other-scan}
use Rattle.pg_heads.proofs.scan.head_scan.Goals as goal

pub returns-then-window-eq-HEAD_BYTES : goal.returns-then-window-eq-HEAD_BYTES
returns-then-window-eq-HEAD_BYTES c =
    let told = scan-told c.args.bytes.now c.front-window.result.now c.blank_front-blank.result c.split_at.result.1.now (scan_view c.head_lines-scan.result)
    c.front-window.ensures.value c.blank_front-blank.ensures.value c.split_at.ensures.back c.head_lines-scan.ensures in
    let n = length c.front-window.result.now in
    flip (open-over n c.if-window-eq-HEAD_BYTES.true) ∙ flip (ap (λ r. within_limit n (scan_view r)) c.in-Open.is) ∙ told

pub returns-else-window-eq-HEAD_BYTES : goal.returns-else-window-eq-HEAD_BYTES
returns-else-window-eq-HEAD_BYTES c =
    let told = scan-told c.args.bytes.now c.front-window.result.now c.blank_front-blank.result c.split_at.result.1.now (scan_view c.head_lines-scan.result)
    c.front-window.ensures.value c.blank_front-blank.ensures.value c.split_at.ensures.back c.head_lines-scan.ensures in
    let n = length c.front-window.result.now in
    flip (open-open n c.if-window-eq-HEAD_BYTES.false) ∙ flip (ap (λ r. within_limit n (scan_view r)) c.in-Open.is) ∙ told

pub returns-in_default : goal.returns-in_default
returns-in_default c =
    let told = scan-told c.args.bytes.now c.front-window.result.now c.blank_front-blank.result c.split_at.result.1.now (scan_view c.head_lines-scan.result)
    c.front-window.ensures.value c.blank_front-blank.ensures.value c.split_at.ensures.back c.head_lines-scan.ensures in
    flip (other-scan (length c.front-window.result.now) c.head_lines-scan.result c.in_default.not-Open) ∙ told
