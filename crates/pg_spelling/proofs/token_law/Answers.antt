use Rattle.pg_spelling.proofs.Lexed.{token-law}
use Rattle.pg_spelling.proofs.token_law.Goals as goal

pub returns : goal.returns
returns c = token-law
