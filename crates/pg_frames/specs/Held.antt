-- The proofs that wait for a hole.
use Rattle.std.specs.Prelude.{List, map, reverse}
use Rattle.pg_logic.specs.Kernel.{Pf}
use Rattle.pg_kernel.specs.View.{proof}
use Rattle.pg_kernel.specs.declared.proof.Proof.{Proof}

-- the next one is the last of the stack
abbrev pub held : List Proof → List Pf
held ps = reverse (map proof ps)
