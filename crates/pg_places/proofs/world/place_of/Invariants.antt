use Rattle.std.proofs.Common.{◌≡◌, ℕ, ◌<◌, false}
use Rattle.std.specs.Prelude.{slice_index_or}
use Rattle.pg_places.specs.declared.world.World.{World}
use Rattle.pg_places.proofs.Seen.{is_called}
use Rattle.pg_places.proofs.world.place_of.Given as goal

abbrev pub invariant-loop-place : goal.invariant-loop-place
invariant-loop-place l = (k : ℕ) (d : World) → k < l.place → is_called l.name (slice_index_or l.worlds k d) ≡ false
