use Rattle.pg_next.proofs.Digits.{SoFar}
use Rattle.pg_next.proofs.size.digits_size.Given as goal

abbrev pub invariant-loop-digit : goal.invariant-loop-digit
invariant-loop-digit l = SoFar l.digits l.digit-index l.value
