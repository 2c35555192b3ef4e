use Rattle.std.proofs.Common.{rules}
use Rattle.pg_terms.specs.View.{term}
use Rattle.pg_arith.specs.View.{declarations}
use Rattle.pg_spelling.proofs.Back.{term-back-law}
use Rattle.pg_syntax.proofs.Again.{term-again}
use Rattle.pg_syntax.proofs.print.print_term.Goals as goal

pub returns-clause-reads : goal.returns-clause-reads
returns-clause-reads c = term-back-law c.args.names.now.vars.items (declarations c.args.sig.now) (term c.args.term.now) c.declared_law.ensures

pub returns-clause-again : goal.returns-clause-again
returns-clause-again c = term-again c.args.names.now.vars.items (declarations c.args.sig.now) (term c.args.term.now) _ c.declared_law.ensures (search rules)
