use Rattle.std.proofs.Common.{◌≡◌, ◌++◌, drop, string_bytes}
use Rattle.pg_terms.specs.View.{args}
use Rattle.pg_syntax.specs.Places.{scope}
use Rattle.pg_syntax.specs.Texts.{arguments_text}
use Rattle.pg_syntax.proofs.written.+write.Given as goal

abbrev pub invariant-write_arguments-loop-t : goal.invariant-write_arguments-loop-t
invariant-write_arguments-loop-t l =
    string_bytes l.out ++ arguments_text (scope l.place) (args (drop l.t-index l.ts)) ≡ string_bytes l.initial.out ++ arguments_text (scope l.place) (args l.ts)
