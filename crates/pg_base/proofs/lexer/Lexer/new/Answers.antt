use Rattle.pg_base.proofs.Spans.{are_tokens_of}
use Rattle.pg_base.proofs.Unique.{made_only_of}
use Rattle.pg_base.proofs.lexer.Lexer.new.Goals as goal

pub returns-clause-spans : goal.returns-clause-spans
returns-clause-spans c = are_tokens_of c.args.source.now c.utf8.source

pub returns-clause-made_of : goal.returns-clause-made_of
returns-clause-made_of c = made_only_of c.args.source.now
