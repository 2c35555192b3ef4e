use Rattle.pg_logic.specs.Value.{functions_of}
use Rattle.pg_logic.specs.Truth.{predicates_of}
use Rattle.pg_arith.proofs.Substituted.{truth-substituted}
use Rattle.pg_arith.proofs.laws.substituted_law.Goals as goal

pub returns : goal.returns
returns c = λ s fr by a tight h. truth-substituted s (functions_of s.functions) (predicates_of (functions_of s.functions) s.predicates) fr by a tight h
