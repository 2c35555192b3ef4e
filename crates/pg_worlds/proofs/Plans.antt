-- When levels are those of worlds in their order.
use Rattle.std.proofs.Common.{◌≡◌, ℕ, ◌^◌, ◌<◌, ◌≤◌, List, length, map, ap, sym, ◌∙◌, arith}
use Rattle.std.proofs.lemmas.List.{length-map}
use Rattle.pg_worlds.specs.declared.course.LevelItems.{LevelItems}
use Rattle.pg_worlds.specs.Worlds.{Worlds, world_of_each, IsGraph, IsWorldOrder}
use Rattle.pg_worlds.specs.Course.{IsPlan}
use Rattle.pg_worlds.specs.View.{level_of, plan_of}
use Rattle.pg_worlds.proofs.Games.{worlds_of_levels}
use Rattle.pg_worlds.proofs.OneOrder.{one_order}

pub plan_from : (g : Worlds) (order : List ℕ) (items : List LevelItems) → IsGraph g → IsWorldOrder g order
    → map (λ (i : LevelItems). i.world) items ≡ world_of_each g order → length items ≤ 2 ^ 16 → IsPlan (plan_of g order items)
plan_from g order items graph ordered same few =
    record {
      graph = graph;
      ordered = ordered;
      by_world = worlds_of_levels items ∙ same;
      numbered = omega (arith, length-map items level_of);
    }

-- there are too many levels
pub too_many : (g : Worlds) (order : List ℕ) (items : List LevelItems) → 2 ^ 16 < length items → IsPlan (plan_of g order items) → ⊥
too_many g order items many plan = omega (arith, plan.numbered, length-map items level_of)

-- the levels are not those of the worlds in the one order that there is
pub other_worlds : (g : Worlds) (order : List ℕ) (items : List LevelItems) → IsWorldOrder g order
    → (map (λ (i : LevelItems). i.world) items ≡ world_of_each g order → ⊥) → (other : List ℕ) → IsPlan (plan_of g other items) → ⊥
other_worlds g order items ordered differ other plan =
    differ (sym (worlds_of_levels items) ∙ plan.by_world ∙ ap (world_of_each g) ((one_order g order ordered).2 other plan.ordered))
