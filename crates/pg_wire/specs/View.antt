-- What requests, replies and messages stand for.
use Rattle.std.specs.Prelude.{ℕ, List, Option, option_map, string_bytes}
use Rattle.pg_messages.specs.Replies as replies
use Rattle.pg_messages.specs.Messages as messages
use Rattle.pg_paths.specs.View.{route_view}
use Rattle.pg_wire.specs.declared.reply.BodyKind.{BodyKind}
use Rattle.pg_wire.specs.declared.reply.BodyKind.TheVariants.{Json, Text}
use Rattle.pg_wire.specs.declared.reply.Reply.{Reply}
use Rattle.pg_wire.specs.declared.service.Request.{Request}

abbrev pub kind_view : BodyKind → replies.BodyKind
kind_view Json = replies.json
kind_view Text = replies.text

abbrev pub said_of : Reply → replies.Said
said_of reply = record { status = reply.status; kind = kind_view reply.kind; body = string_bytes reply.body }

abbrev pub ask_of : Request → messages.Ask
ask_of request = record { route = route_view request.route; pass = option_map (λ p. p.now) request.pass; body = request.body.now }
