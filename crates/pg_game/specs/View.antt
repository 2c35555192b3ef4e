-- The game of `pg_gametext` that the Rust type stands for.
use Rattle.std.specs.Prelude.{List, map, option_map, string_bytes}
use Rattle.pg_arith.specs.View.{declarations}
use Rattle.pg_terms.specs.View.{formula}
use Rattle.pg_script.specs.View.{entry}
use Rattle.pg_script.specs.declared.item.Script.{Script}
use Rattle.pg_script.specs.Data.{Entry}
use Rattle.pg_syntax.specs.declared.statement.Statement.{Statement}
use Rattle.pg_game.specs.declared.game.Game.{Game}
use Rattle.pg_game.specs.declared.game.Level.{Level}
use Rattle.pg_game.specs.declared.game.Named.{Named}
use Rattle.pg_game.specs.declared.game.Need.{Need}
use Rattle.pg_game.specs.declared.game.WorldText.{WorldText}
use Rattle.pg_gametext.specs.Reading as reading
use Rattle.pg_gametext.specs.Game as text

abbrev pub named : Named → text.Named
named n = record { name = n.name; at = n.at }

abbrev pub all_named : List Named → List text.Named
all_named = map named

abbrev pub need : Need → text.Need
need n = record { before = n.before; after = n.after }

abbrev pub world : WorldText → text.WorldText
world w = record { name = w.name; title = string_bytes w.title; introduction = string_bytes w.introduction; levels = w.levels }

abbrev pub statement : Statement → reading.Statement
statement s = record { binders = map reading.binder s.binders.items; target = formula s.target }

abbrev pub sample : Script → List Entry
sample s = map entry s.items

abbrev pub level : Level → text.Level
level l =
    record {
      world = l.world;
      number = l.number;
      title = string_bytes l.title;
      introduction = string_bytes l.introduction;
      conclusion = string_bytes l.conclusion;
      name = l.name;
      statement = statement l.statement;
      sample = option_map sample l.sample;
      new_tactics = l.new_tactics.items;
      new_theorems = all_named l.new_theorems.items;
      disabled_tactics = l.disabled_tactics.items;
      disabled_theorems = all_named l.disabled_theorems.items;
      only_tactics = option_map (λ v. v.items) l.only_tactics;
      only_theorems = option_map (λ v. all_named v.items) l.only_theorems;
    }

abbrev pub game : Game → text.Game
game g =
    record {
      title = string_bytes g.title;
      introduction = string_bytes g.introduction;
      conclusion = string_bytes g.conclusion;
      declared = declarations g.sig;
      worlds = map world g.worlds.items;
      needs = map need g.needs.items;
      levels = map level g.levels.items;
    }
