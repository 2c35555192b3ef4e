use Rattle.std.proofs.Common.{◌≡◌, drop}
use Rattle.std.specs.Prelude.{flat_map}
use Rattle.std.specs.List.{list_any}
use Rattle.std.specs.Str.{bytes_eq}
use Rattle.pg_logic.specs.Declarations.{names_in}
use Rattle.pg_arith.specs.View.{functions}
use Rattle.pg_arith.proofs.checks.functions_bring.Given as goal

abbrev pub invariant-loop-function : goal.invariant-loop-function
invariant-loop-function l =
    list_any (bytes_eq l.name) (flat_map names_in (functions (drop l.function-index l.declared))) ≡ list_any (bytes_eq l.name) (flat_map names_in (functions l.declared))
