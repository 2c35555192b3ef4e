use Rattle.std.proofs.Common.{◌≡◌, map, take}
use Rattle.pg_base.specs.Tokens.{word}
use Rattle.pg_run.specs.Symbols.{symbol_of}
use Rattle.pg_run.proofs.game.symbols_of.Given as goal

abbrev pub invariant-loop-token : goal.invariant-loop-token
invariant-loop-token l = l.symbols.items ≡ map symbol_of (map word (take l.token-index l.tokens))
