use Rattle.std.proofs.Common.{drop}
use Rattle.pg_shape.specs.States.{state}
use Rattle.pg_shape.proofs.Answering.{Reads}
use Rattle.pg_shape.proofs.reader.read_shape.Given as goal

abbrev pub invariant-loop-token : goal.invariant-loop-token
invariant-loop-token l = Reads l.room (state l.state) (drop l.token-index l.tokens) l.tokens
