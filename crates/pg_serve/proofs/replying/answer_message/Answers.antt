use Rattle.pg_wire.specs.View.{said_of}
use Rattle.pg_serve.proofs.Sending.{asked}
use Rattle.pg_serve.proofs.replying.answer_message.Goals as goal

pub returns-in-Asks-clause-replied : goal.returns-in-Asks-clause-replied
returns-in-Asks-clause-replied g c =
    asked g.S.Service.answers c.args.service.now c.answer-reply.new.self (g.L.Sink.written c.args.link.now) (g.L.Sink.written c.send.new.link) c.args.message.now c.in-Asks.request
    (said_of c.answer-reply.result) c.send.result c.in-Asks.is c.answer-reply.ensures.answers c.send.ensures.sent
