use Rattle.std.proofs.Common.{inr}
use Rattle.pg_serve.proofs.Turns.{nothing-read}
use Rattle.pg_serve.proofs.serving.serve_link.Goals as goal

pub returns-in_default : goal.returns-in_default
returns-in_default g c = inr (nothing-read g.S.Service.answers c.args.service.now (g.L.Source.left c.args.link.now) (g.L.Sink.written c.args.link.now))
