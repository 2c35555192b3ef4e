use Rattle.std.proofs.Common.{◌≡◌, List, ℕ, subst, ap, ◌∙◌}
use Rattle.std.specs.Prelude.{IfOk, string_bytes, option_map}
use Rattle.pg_messages.specs.Replies.{message_bytes}
use Rattle.pg_paths.specs.View.{verb_view}
use Rattle.pg_wire.specs.View.{said_of, kind_view}
use Rattle.pg_wire.proofs.Sent.{sent-memory, sent-plain}
use Rattle.pg_wire.proofs.reply.reply_bytes.Goals as goal

pub returns-then-reply-eq507 : goal.returns-then-reply-eq507
returns-then-reply-eq507 c =
    subst (λ (bytes : List ℕ). IfOk c.whole.result (λ text. string_bytes text ≡ bytes))
    (sent-memory (said_of c.args.reply.now) (option_map verb_view c.args.allow) c.args.closes c.if-reply-eq507.true) c.whole.ensures

pub returns : goal.returns
returns c =
    let body = λ (b : List ℕ). message_bytes (record { status = c.args.reply.now.status; kind = kind_view c.args.reply.now.kind; body = b }) (option_map verb_view c.args.allow) c.args.closes in
    subst (λ (bytes : List ℕ). IfOk c.whole-2.result (λ text. string_bytes text ≡ bytes))
    (ap body c.as_str.ensures.value ∙ sent-plain (said_of c.args.reply.now) (option_map verb_view c.args.allow) c.args.closes c.if-reply-eq507.false) c.whole-2.ensures
