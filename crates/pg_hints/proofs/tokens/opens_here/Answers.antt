use Rattle.pg_base.specs.Tokens.{word}
use Rattle.pg_gametext.specs.Forms.{is_open}
use Rattle.pg_hints.proofs.Tests.{both, neither}
use Rattle.pg_hints.proofs.tokens.opens_here.Goals as goal

pub returns-then-token-at : goal.returns-then-token-at
returns-then-token-at c = both c.args.token.now.at c.args.at (is_open (word c.args.token.now)) c.fits.result c.if-token-at.true c.fits.ensures

pub returns-else-token-at : goal.returns-else-token-at
returns-else-token-at c = neither c.args.token.now.at c.args.at (is_open (word c.args.token.now)) c.if-token-at.false
