use Rattle.std.proofs.Common.{◌≡◌, drop}
use Rattle.pg_logic.specs.Declarations.{first, undeclared_all}
use Rattle.pg_terms.specs.View.{args}
use Rattle.pg_arith.specs.View.{plain_functions}
use Rattle.pg_arith.proofs.checks.+undeclared.Given as goal

abbrev pub invariant-undeclared_all-loop-t : goal.invariant-undeclared_all-loop-t
invariant-undeclared_all-loop-t l =
    first (undeclared_all (plain_functions l.functions) (args (drop l.t-index l.ts))) ≡ first (undeclared_all (plain_functions l.functions) (args l.ts))
