use Rattle.std.proofs.Common.{◌≡◌, ◌+◌, map, drop}
use Rattle.pg_keep.specs.Rows.{entry_of, place_of}
use Rattle.pg_keep.proofs.memory.place_for.Given as goal

abbrev pub invariant-loop-place : goal.invariant-loop-place
invariant-loop-place l =
    place_of l.number (map entry_of l.rows) ≡ place_of l.number (map entry_of (drop l.place l.rows)) + l.place
