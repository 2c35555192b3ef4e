use Rattle.std.proofs.Common.{sym}
use Rattle.pg_arith.proofs.Runs.{declared-at, undeclared-at}
use Rattle.pg_arith.proofs.values.declaration_of.Goals as goal

pub returns-in-None : goal.returns-in-None
returns-in-None c = undeclared-at c.args.functions.now c.args.k (sym c.in-None.ensures)

pub returns-in-Some : goal.returns-in-Some
returns-in-Some c = declared-at c.args.functions.now c.args.k c.in-Some.function.now (sym c.in-Some.ensures)
