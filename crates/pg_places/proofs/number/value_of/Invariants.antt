use Rattle.std.proofs.Common.{◌≡◌, ◌-◌, ◌^◌, min, take}
use Rattle.pg_gametext.specs.Checks.{digits_value}
use Rattle.pg_places.proofs.number.value_of.Given as goal

abbrev pub invariant-loop-digit : goal.invariant-loop-digit
invariant-loop-digit l = l.value ≡ min (digits_value 0 (take l.digit-index l.digits)) (2 ^ 32 - 1)
