use Rattle.pg_gametext.proofs.Constants.{constant-law}
use Rattle.pg_gametext.proofs.constant_law.Goals as goal

pub returns : goal.returns
returns c = constant-law
