use Rattle.pg_messages.specs.Links.{allow_of}
use Rattle.pg_next.specs.View.{refusal_view}
use Rattle.pg_serve.proofs.Sending.{nothing-sent, refuses-all}
use Rattle.pg_serve.proofs.replying.refuse.Goals as goal

pub returns-in_default-clause-sent : goal.returns-in_default-clause-sent
returns-in_default-clause-sent g c =
    let refuses = refuses-all c.args.why in
    (refuses.0, refuses.1, nothing-sent (g.L.Sink.written c.args.link.now) refuses.0 (allow_of (refusal_view c.args.why)) c.args.closes)
