-- What is kept of the commands before a place, and which commands it stands for.
use Rattle.std.specs.Prelude.{◌≡◌, ℕ, ◌<◌, ◌≤◌, ◌==◌, Bool, not, List, ◌∷◌, map, Option, Some, None, if◌then◌else◌}
use Rattle.pg_base.specs.Tokens.{Word}
use Rattle.pg_logic.specs.Declarations.{Name}
use Rattle.pg_gametext.specs.Faults.{level_limit}
use Rattle.pg_gametext.specs.Placed.{Which, Command, text, world, level, statement, Placed}
use Rattle.pg_gametext.specs.Before.{worlds, current_world, in_level, lacks_statement, statement_place, level_count, levels_of, of_game, of_world, of_level, text_place}
use Rattle.pg_places.specs.Held.{Held, place_of, no_texts, names_of, IsPlaceOf, read_named, read_at, its_levels, its_texts, changed_at}
use Rattle.pg_places.specs.declared.texts.Texts.{Texts}

pub record There : Type 0 where
  -- in the order of their first `World`
  pub worlds : List Held
  -- the place of the current world
  pub current : Option ℕ
  pub in_level : Bool
  pub lacks_statement : Bool
  -- where the first statement of the current level stands
  pub statement : Option ℕ
  pub has_level : Bool
  -- where the texts of the game and of the last level stand
  pub game : Texts
  pub level : Texts

-- ---- what it stands for

-- the current world is the first of its name
abbrev pub IsCurrent : List Held → Option ℕ → Option Name → Type 0
IsCurrent ws None None = Unit {0}
IsCurrent ws (Some i) (Some x) = IsPlaceOf x i ws
IsCurrent ws _ _ = ⊥

-- What is kept is what these commands say, the nearest first; and no world has too many levels.
pub record Stands (t : There) (before : List Placed) : Type 0 where
  pub names : names_of t.worlds ≡ worlds before
  pub current : IsCurrent t.worlds t.current (current_world before)
  pub in_level : t.in_level ≡ in_level before
  pub lacks : t.lacks_statement ≡ lacks_statement before
  pub statement : t.statement ≡ statement_place before
  pub count : t.has_level ≡ not (level_count before == 0)
  pub levels : (x : Name) → read_named its_levels 0 x t.worlds ≡ levels_of (Some x) before
  pub few : (x : Name) → read_named its_levels 0 x t.worlds ≤ level_limit
  pub game_texts : (w : Which) → place_of w t.game ≡ text_place w of_game before
  pub world_texts : (w : Which) (x : Name) → place_of w (read_named its_texts no_texts x t.worlds) ≡ text_place w (of_world x) before
  pub level_texts : (w : Which) → place_of w t.level ≡ text_place w (of_level (level_count before)) before

-- these are the worlds of some commands, in their order, each with the number of its levels
pub record AreWorlds (ws : List Held) (before : List Placed) : Type 0 where
  pub names : names_of ws ≡ worlds before
  pub levels : map its_levels ws ≡ map (λ x. levels_of (Some x) before) (worlds before)

-- ---- the current world

abbrev pub levels_at : Option ℕ → List Held → ℕ
levels_at None ws = 0
levels_at (Some i) ws = read_at its_levels 0 i ws

-- how many levels the current world has, 0 where there is none
abbrev pub levels_here : There → ℕ
levels_here t = levels_at t.current t.worlds

-- one more level may stand in the current world
abbrev pub HasRoom : There → Type 0
HasRoom t = levels_here t < level_limit

abbrev pub texts_at : Option ℕ → There → Texts
texts_at None t = t.game
texts_at (Some i) t = read_at its_texts no_texts i t.worlds

-- the texts of what a command here would be about: the level, or else the world, or else the game
abbrev pub texts_here : There → Texts
texts_here t = if t.in_level then t.level else texts_at t.current t

-- ---- one command more

abbrev pub counted_at : Option ℕ → (Held → Held) → List Held → List Held
counted_at None change ws = ws
counted_at (Some i) change ws = changed_at change i ws

-- the commands of each kind, by their parts
abbrev pub IsWorldCalled : Word → Command → Type 0
IsWorldCalled name (world t) = t.value ≡ Some name
IsWorldCalled name _ = ⊥

abbrev pub IsLevel : Command → Type 0
IsLevel (level t) = Unit {0}
IsLevel _ = ⊥

abbrev pub IsStatement : Command → Type 0
IsStatement (statement t) = Unit {0}
IsStatement _ = ⊥

abbrev pub IsText : Which → Command → Type 0
IsText which (text w t) = w ≡ which
IsText which _ = ⊥

-- all others
abbrev pub IsOther : Command → Type 0
IsOther (world t) = ⊥
IsOther (level t) = ⊥
IsOther (statement t) = ⊥
IsOther (text w t) = ⊥
IsOther _ = Unit {0}

-- Behind one command more at this place, of whatever commands it is, the new stands for what the old did with that command before.
abbrev pub Follows : There → There → ℕ → (Command → Type 0) → Type 0
Follows old new at Is = (before : List Placed) (c : Placed) → c.at ≡ at → Is c.command → Stands old before → Stands new (c ∷ before)

-- Commands of all other kinds change nothing.
abbrev pub OthersLaw : Type 0
OthersLaw = (t : There) (at : ℕ) → Follows t t at IsOther
