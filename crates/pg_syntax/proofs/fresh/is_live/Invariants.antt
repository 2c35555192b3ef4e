use Rattle.std.proofs.Common.{◌≡◌, drop}
use Rattle.std.specs.List.{list_any}
use Rattle.std.specs.Str.{bytes_eq}
use Rattle.pg_spelling.specs.Named.{live}
use Rattle.pg_syntax.proofs.fresh.is_live.Given as goal

abbrev pub invariant-loop-var : goal.invariant-loop-var
invariant-loop-var l = list_any (bytes_eq l.text) (live (drop l.var-index l.vars)) ≡ list_any (bytes_eq l.text) (live l.vars)
