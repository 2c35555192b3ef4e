use Rattle.std.proofs.Common.{◌≡◌, map, take, Some}
use Rattle.pg_script.specs.View.{words}
use Rattle.pg_gametext.specs.Reading.{texts}
use Rattle.pg_declares.proofs.reading.names_of.Given as goal

abbrev pub invariant-loop-token : goal.invariant-loop-token
invariant-loop-token l = l.vars.items ≡ map Some (texts (words (take l.token-index l.tokens)))
