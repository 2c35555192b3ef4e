-- The plain data that the Rust types stand for.
use Rattle.std.specs.Prelude.{List, map, string_bytes}
use Rattle.pg_places.specs.Held.{Held}
use Rattle.pg_places.specs.There.{There}
use Rattle.pg_places.specs.declared.world.World.{World}
use Rattle.pg_places.specs.declared.places.Places.{Places}

abbrev pub held : World → Held
held w = record { name = string_bytes w.name; levels = w.levels; texts = w.texts }

abbrev pub helds : List World → List Held
helds ws = map held ws

abbrev pub there : Places → There
there p = record {
  worlds = helds p.worlds.items;
  current = p.current;
  in_level = p.in_level;
  lacks_statement = p.lacks_statement;
  statement = p.statement;
  has_level = p.has_level;
  game = p.game;
  level = p.level;
}
