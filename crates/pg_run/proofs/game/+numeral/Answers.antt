use Rattle.std.proofs.Common.{◌∙◌, ap, arith, sym}
use Rattle.pg_run.specs.Reading.{closed}
use Rattle.pg_run.proofs.Shapes.{inside_at-some}
use Rattle.pg_run.proofs.game.+numeral.Goals as goal

pub inside_at-returns : goal.inside_at-returns
inside_at-returns t c = c.close.ensures ∙ ap closed c.in_ok-found.ensures ∙ sym (inside_at-some c.args.budget c.args.symbols.now (omega arith))
