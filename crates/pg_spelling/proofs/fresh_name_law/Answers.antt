use Rattle.pg_spelling.proofs.FreshText.{fresh-name-law}
use Rattle.pg_spelling.proofs.fresh_name_law.Goals as goal

pub returns : goal.returns
returns c = fresh-name-law
