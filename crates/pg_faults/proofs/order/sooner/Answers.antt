use Rattle.pg_faults.proofs.Least.{least-law}
use Rattle.pg_faults.proofs.order.sooner.Goals as goal

pub returns-in-Some-clause-joins : goal.returns-in-Some-clause-joins
returns-in-Some-clause-joins c = least-law

pub returns-in-None-clause-joins : goal.returns-in-None-clause-joins
returns-in-None-clause-joins c = least-law
