use Rattle.std.proofs.Common.{rules}
use Rattle.pg_terms.specs.View.{formula}
use Rattle.pg_arith.specs.View.{declarations}
use Rattle.pg_spelling.proofs.Back.{back-law}
use Rattle.pg_syntax.proofs.Again.{formula-again}
use Rattle.pg_syntax.proofs.print.print_formula.Goals as goal

pub returns-clause-reads : goal.returns-clause-reads
returns-clause-reads c = back-law c.args.names.now.vars.items (declarations c.args.sig.now) (formula c.args.formula.now) c.declared_law.ensures

pub returns-clause-again : goal.returns-clause-again
returns-clause-again c = formula-again c.args.names.now.vars.items (declarations c.args.sig.now) (formula c.args.formula.now) _ c.declared_law.ensures (search rules)
