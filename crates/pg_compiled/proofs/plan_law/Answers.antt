use Rattle.pg_compiled.proofs.Plans.{plan-law}
use Rattle.pg_compiled.proofs.plan_law.Goals as goal

pub returns : goal.returns
returns c = plan-law
