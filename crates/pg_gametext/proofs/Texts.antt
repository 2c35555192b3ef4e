-- What the computed texts share: what a text is, texts with parts that repeat, and games.
use Rattle.std.proofs.Common.{ℕ, zero, suc, ◌+◌, List, [], ◌∷◌, ◌++◌, map, if◌then◌else◌, nat_lt}
use Rattle.std.specs.Prelude.{◌/◌, ◌%◌, sum, Option, Some, None, option_map}
use Rattle.std.specs.Char.{len_utf8}
use Rattle.pg_base.specs.Tokens.{lexed_from, start}
use Rattle.pg_logic.specs.Tree.{Fm}
use Rattle.pg_gametext.specs.Faults.{Kind}
use Rattle.pg_gametext.specs.Reading.{Binder, Statement, no_declarations}
use Rattle.pg_gametext.specs.Game.{Named, WorldText, Level, Game, Reading, Good, Bad, NoWorld, tokens_reading}

-- a game, the first fault with its place, or the place of a world that isn't there
pub data Told : Type 0 where
  good : Told
  bad : ℕ → Kind → Told
  no_world : ℕ → Told
  other : Told

abbrev pub told_reading : Reading → Told
told_reading (Good g) = good
told_reading (Bad f) = bad f.at f.kind
told_reading (NoWorld at) = no_world at
told_reading _ = other

-- what a text of these characters is
abbrev pub read : List ℕ → Reading
read cs = tokens_reading (sum (map len_utf8 cs)) (lexed_from 0 start cs)

abbrev pub told : List ℕ → Told
told cs = told_reading (read cs)

-- ---- texts with parts that repeat

-- a number below 100
abbrev pub decimal : ℕ → List ℕ
decimal n = if nat_lt n 10 then (n + 48) ∷ [] else (n / 10 + 48) ∷ (n % 10 + 48) ∷ []

abbrev pub repeated : ℕ → List ℕ → List ℕ
repeated zero cs = []
repeated (suc n) cs = cs ++ repeated n cs

-- for so many numbers from the first on
abbrev pub numbered : (first n : ℕ) → (ℕ → List ℕ) → List ℕ
numbered k zero text = []
numbered k (suc n) text = text k ++ numbered (suc k) n text

-- ---- games

-- of a sample, whether there is one
abbrev pub with_flag : Level → Level
with_flag l = record l { sample = option_map (λ es. []) l.sample }

-- the game that a text of these characters is
abbrev pub game_read : Reading → Option Game
game_read (Good g) = Some (record g { levels = map with_flag g.levels })
game_read _ = None

abbrev pub game : List ℕ → Option Game
game cs = game_read (read cs)

-- a level with a sample and nothing besides
abbrev pub plain_level : (world number : ℕ) → Statement → Level
plain_level w n s = record {
  world = w;
  number = n;
  title = [];
  introduction = [];
  conclusion = [];
  name = None;
  statement = s;
  sample = Some [];
  new_tactics = [];
  new_theorems = [];
  disabled_tactics = [];
  disabled_theorems = [];
  only_tactics = None;
  only_theorems = None;
}

abbrev pub plain_game : List WorldText → List Level → Game
plain_game ws ls = record { title = []; introduction = []; conclusion = []; declared = no_declarations; worlds = ws; needs = []; levels = ls }

abbrev pub plain_world : List ℕ → ℕ → WorldText
plain_world x n = record { name = x; title = []; introduction = []; levels = n }

abbrev pub claim : List Binder → Fm → Statement
claim bs a = record { binders = bs; target = a }

abbrev pub theorem : List ℕ → ℕ → Named
theorem x at = record { name = x; at = at }
