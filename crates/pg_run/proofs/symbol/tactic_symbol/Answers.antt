use Rattle.std.proofs.Common.{◌∙◌, ap, sym as flip, None}
use Rattle.pg_runs.proofs.Named.{named}
use Rattle.pg_run.specs.Symbols.{symbol_of_move}
use Rattle.pg_run.proofs.symbol.tactic_symbol.Goals as goal

pub returns-in-None : goal.returns-in-None
returns-in-None c = flip (ap symbol_of_move (named c.args.text.now None tt c.in-None.ensures.inverse))
