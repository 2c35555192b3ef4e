use Rattle.pg_acts.proofs.Parts.{few, many}
use Rattle.pg_inducts.proofs.naming.at_most.Goals as goal

pub returns-in-None : goal.returns-in-None
returns-in-None c = few c.args.limit c.args.names.now c.in-None.ensures

pub returns-in-Some : goal.returns-in-Some
returns-in-Some c = many c.args.limit c.args.names.now c.in-Some.name.now c.in-Some.ensures
