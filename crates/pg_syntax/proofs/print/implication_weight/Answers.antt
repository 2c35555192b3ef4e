use Rattle.std.proofs.Common.{sym, ap, ◌∙◌}
use Rattle.pg_terms.specs.View.{formula}
use Rattle.pg_syntax.specs.Places.{weight}
use Rattle.pg_syntax.proofs.Weights.{denied-whole}
use Rattle.pg_syntax.proofs.print.implication_weight.Goals as goal

pub returns-in-None : goal.returns-in-None
returns-in-None c =
    λ s. sym (ap weight (denied-whole s (formula c.args.a.now) (formula c.args.b.now) (sym c.is_falsum.ensures ∙ c.if-not-is_falsum.false) c.in-None.ensures))
