use Rattle.std.proofs.Common.{ap}
use Rattle.pg_faults.specs.View.{found}
use Rattle.pg_terms.specs.View.{formula}
use Rattle.pg_states.proofs.Ending.{of_answer, whole_sized}
use Rattle.pg_states.proofs.statements.whole.Goals as goal

pub returns-in-None : goal.returns-in-None
returns-in-None c h a g e =
    of_answer c.args.at h (formula c.args.target) c.sized.result a e
    (whole_sized c.args.at h c.args.draft (formula c.args.target) c.sized.result g (ap found c.in-None.is) c.sized.ensures)
