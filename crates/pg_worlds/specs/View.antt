-- The levels of the program as the definitions see them.
use Rattle.std.specs.Prelude.{ℕ, List, map, option_map}
use Rattle.pg_worlds.specs.declared.course.LevelItems.{LevelItems}
use Rattle.pg_worlds.specs.Worlds.{Worlds}
use Rattle.pg_worlds.specs.Course.{Level, Plan}

abbrev pub level_of : LevelItems → Level
level_of l =
    record {
      world = l.world;
      new_tactics = l.new_tactics.items;
      new_theorems = l.new_theorems.items;
      own = l.own;
      sampled = l.sampled;
      disabled_tactics = l.disabled_tactics.items;
      disabled_theorems = l.disabled_theorems.items;
      only_tactics = option_map (λ v. v.items) l.only_tactics;
      only_theorems = option_map (λ v. v.items) l.only_theorems;
    }

abbrev pub plan_of : Worlds → List ℕ → List LevelItems → Plan
plan_of worlds order items = record { worlds = worlds; order = order; levels = map level_of items }
