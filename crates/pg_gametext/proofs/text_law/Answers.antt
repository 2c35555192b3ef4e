use Rattle.pg_gametext.proofs.Reader.{text-law}
use Rattle.pg_gametext.proofs.text_law.Goals as goal

pub returns : goal.returns
returns c = text-law
