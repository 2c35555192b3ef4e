use Rattle.pg_script.proofs.Shapes.{move_found, move_read}
use Rattle.pg_script.proofs.laws.move_law.Goals as goal

pub returns : goal.returns
returns c = λ room end w ws m. (move_found room end w ws m, move_read room end w ws m)
