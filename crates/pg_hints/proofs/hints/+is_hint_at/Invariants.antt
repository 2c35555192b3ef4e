use Rattle.std.proofs.Common.{◌≡◌, ◌==◌, drop, map}
use Rattle.std.specs.List.{list_any}
use Rattle.pg_script.specs.View.{entry}
use Rattle.pg_script.specs.Data.{entries_of}
use Rattle.pg_gametext.specs.Checks.{hints_in_all}
use Rattle.pg_hints.proofs.hints.+is_hint_at.Given as goal

abbrev pub invariant-has_hint_at-loop-item : goal.invariant-has_hint_at-loop-item
invariant-has_hint_at-loop-item l =
    list_any (λ a. a == l.at) (hints_in_all (entries_of (map entry (drop l.item-index l.items)))) ≡ list_any (λ a. a == l.at) (hints_in_all (entries_of (map entry l.items)))
