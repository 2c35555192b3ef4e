use Rattle.std.proofs.Common.{◌≡◌, map, take}
use Rattle.pg_worlds.specs.declared.course.LevelItems.{LevelItems}
use Rattle.pg_worlds.proofs.course.have_worlds.Given as goal

abbrev pub invariant-loop-at : goal.invariant-loop-at
invariant-loop-at l = map (λ (i : LevelItems). i.world) (take l.at l.items) ≡ take l.at l.worlds
