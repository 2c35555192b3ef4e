use Rattle.std.proofs.Common.{◌≡◌, List, ℕ, subst, ◌∙◌}
use Rattle.std.specs.Prelude.{IfOk, string_bytes, option_map}
use Rattle.pg_messages.specs.Replies.{status_line, kind_lines, size_lines}
use Rattle.pg_paths.specs.View.{verb_view}
use Rattle.pg_wire.specs.View.{kind_view}
use Rattle.pg_wire.proofs.Sent.{joined-same}
use Rattle.std.proofs.Common.{length}
use Rattle.pg_wire.proofs.reply.whole.Goals as goal

pub returns : goal.returns
returns c =
    let same = joined-same c.as_str.result.now (status_line c.args.status)
    c.as_str-2.result.now (kind_lines (kind_view c.args.kind) (option_map verb_view c.args.allow))
    c.as_str-3.result.now (size_lines (length c.args.body.now) c.args.closes) c.args.body.now
    (c.as_str.ensures.value ∙ c.in_ok-first.ensures) (c.as_str-2.ensures.value ∙ c.in_ok-kinds.ensures) (c.as_str-3.ensures.value ∙ c.in_ok-sizes.ensures) in
    subst (λ (bytes : List ℕ). IfOk c.joined.result (λ text. string_bytes text ≡ bytes)) same c.joined.ensures
