use Rattle.std.proofs.Common.{◌≡◌, ap, refl, arith, codes, [], subst}
use Rattle.pg_heads.specs.Told.{IsFound}
use Rattle.pg_messages.specs.Messages.{length_digits}
use Rattle.pg_next.proofs.size.size_of.Goals as goal

pub returns-in-Absent-clause-size : goal.returns-in-Absent-clause-size
returns-in-Absent-clause-size c = λ values found. let none : values ≡ [] = subst (λ f. IsFound f values) c.in-Absent.is found in (codes "0", ap length_digits none, refl, omega arith)
