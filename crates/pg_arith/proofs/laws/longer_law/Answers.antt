use Rattle.pg_logic.specs.Value.{functions_of}
use Rattle.pg_logic.specs.Truth.{predicates_of}
use Rattle.pg_arith.proofs.Substituted.{truth-longer}
use Rattle.pg_arith.proofs.laws.longer_law.Goals as goal

pub returns : goal.returns
returns c = λ s fr more bd m a h. truth-longer s (functions_of s.functions) (predicates_of (functions_of s.functions) s.predicates) fr more bd m a h
