use Rattle.pg_gametext.proofs.Reader.{reader-law}
use Rattle.pg_gametext.proofs.reader_law.Goals as goal

pub returns : goal.returns
returns c = reader-law
