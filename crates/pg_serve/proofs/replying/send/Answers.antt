use Rattle.std.specs.Prelude.{option_map}
use Rattle.pg_paths.specs.View.{verb_view}
use Rattle.pg_wire.specs.View.{said_of}
use Rattle.pg_serve.proofs.Sending.{nothing-sent}
use Rattle.pg_serve.proofs.replying.send.Goals as goal

pub returns-in_default-clause-sent : goal.returns-in_default-clause-sent
returns-in_default-clause-sent g c =
    nothing-sent (g.L.Sink.written c.args.link.now) (said_of c.args.reply.now) (option_map verb_view c.args.allow) c.args.closes
