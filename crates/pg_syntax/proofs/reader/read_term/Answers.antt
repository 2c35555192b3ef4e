use Rattle.std.proofs.Common.{[], map}
use Rattle.pg_base.specs.Tokens.{word}
use Rattle.pg_syntax.specs.View.{scope_of}
use Rattle.pg_syntax.proofs.Answering.{right_term, fits_of_term, live_of_term}
use Rattle.pg_syntax.proofs.reader.read_term.Goals as goal

pub returns-clause-fits : goal.returns-clause-fits
returns-clause-fits c =
    fits_of_term (scope_of c.args.names.now c.args.sig.now []) c.args.end (map word c.args.tokens.now) c.term_in_tokens.result (right_term _ c.args.end (map word c.args.tokens.now) c.term_in_tokens.result c.term_in_tokens.ensures)

pub returns-clause-live : goal.returns-clause-live
returns-clause-live c =
    live_of_term (scope_of c.args.names.now c.args.sig.now []) c.args.end (map word c.args.tokens.now) c.term_in_tokens.result (right_term _ c.args.end (map word c.args.tokens.now) c.term_in_tokens.result c.term_in_tokens.ensures)
