use Rattle.std.proofs.Common.{◌≡◌, ◌++◌, drop, option_map}
use Rattle.pg_run.specs.Reading.{moves_of}
use Rattle.pg_run.proofs.game.moves_of.Given as goal

abbrev pub invariant-loop-symbol : goal.invariant-loop-symbol
invariant-loop-symbol l = option_map (λ ts. l.tactics.items ++ ts) (moves_of (drop l.symbol-index l.symbols)) ≡ moves_of l.symbols
