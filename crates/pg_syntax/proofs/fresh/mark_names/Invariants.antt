use Rattle.std.proofs.Common.{◌≡◌, ◌+◌, ◌||◌, ℕ, false, length}
use Rattle.std.specs.Prelude.{IsTrue, slice_index_or}
use Rattle.std.specs.List.{list_any}
use Rattle.std.specs.Str.{bytes_eq}
use Rattle.pg_spelling.specs.Fresh.{numbered}
use Rattle.pg_syntax.proofs.fresh.mark_names.Given as goal

abbrev pub invariant-loop-name : goal.invariant-loop-name
invariant-loop-name l = record {
  length : length l.used ≡ length l.initial.used;
  named : (k : ℕ) → IsTrue (slice_index_or l.used k false) → IsTrue (slice_index_or l.initial.used k false || list_any (bytes_eq (numbered l.stem (k + 1))) l.names);
}
