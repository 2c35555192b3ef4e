use Rattle.std.proofs.Common.{◌+◌, ◌∙◌, ap, arith}
use Rattle.pg_terms.specs.View.{formula}
use Rattle.pg_syntax.proofs.Closing.{nodes-below, tight-below}
use Rattle.pg_syntax.proofs.statement.+closed_from.Goals as goal

pub quantified-requires-clause-small : goal.quantified-requires-clause-small
quantified-requires-clause-small t c =
    nodes-below (c.args.before + 1) c.args.binders.now (formula c.args.target.now) (formula c.get.result.now) (ap formula c.get.ensures ∙ c.in_ok-body-in-Var.ensures) (omega arith)

pub quantified-requires-clause-tight : goal.quantified-requires-clause-tight
quantified-requires-clause-tight t c =
    tight-below (c.args.before + 1) c.args.binders.now (formula c.args.target.now) (formula c.get.result.now) (ap formula c.get.ensures ∙ c.in_ok-body-in-Var.ensures) c.requires.tight
