use Rattle.pg_script.proofs.Notes.{hint_found, hint_read}
use Rattle.pg_script.proofs.laws.hint_law.Goals as goal

pub returns : goal.returns
returns c = λ at end ws h. (hint_found at end ws h, hint_read at end ws h)
