-- The game that a text means, or its first fault.
use Rattle.std.specs.Prelude.{ℕ, min, Bool, true, false, ◌&&◌, ◌||◌, not, List, [], ◌∷◌, ◌++◌, length, map, flat_map, Option, Some, None, option_map, Result, Ok, Err, if◌then◌else◌, ◌==◌, nat_lt, unwrap_or, position}
use Rattle.std.specs.Str.{bytes_eq, is_utf8}
use Rattle.std.specs.Str.Lossy.{utf8_valid_len}
use Rattle.std.specs.List.{list_any}
use Rattle.std.specs.Option.{option_or}
use Rattle.pg_base.specs.declared.token.LexFault.{LexFault}
use Rattle.pg_base.specs.Tokens.{Word, Lexed, lexed}
use Rattle.pg_logic.specs.Tree.{falsum}
use Rattle.pg_logic.specs.Declarations.{Name, Declarations}
use Rattle.pg_script.specs.declared.fault.ScriptFault.{ScriptFault}
use Rattle.pg_script.specs.Data.{Part, Entry}
use Rattle.pg_script.specs.Scripts.{items_of, lex_place}
use Rattle.pg_worlds.specs.declared.tactic_name.TacticName.{TacticName}
use Rattle.pg_worlds.specs.Moves.{word_of}
use Rattle.pg_gametext.specs.Commands.{standing}
use Rattle.pg_gametext.specs.Faults.{Fault, fault, BadToken, Expected, fault_if, least}
use Rattle.pg_gametext.specs.Forms.{Link, StatementText}
use Rattle.pg_gametext.specs.Placed.{Which, Title, Introduction, Conclusion, Listed, New, Disabled, Only, Command, game, text, world, level, statement, tactics, theorems, dependency, Placed, commands}
use Rattle.pg_gametext.specs.Before.{text_of, current_world, in_level, lacks_statement, worlds, levels_of, Holder, of_game, of_world, of_level, holder, same_holder, same_which, level_count}
use Rattle.pg_gametext.specs.Reading.{Statement, declarations, statement_read}
use Rattle.pg_gametext.specs.Checks.{moves, is_sorry, command_faults}

-- ---- the first fault

-- a text has a level, and its last level a statement
abbrev pub end_faults : ℕ → List Placed → List Fault
end_faults end before = fault_if (lacks_statement before || (level_count before == 0)) end Expected

-- the faults of commands behind others, the nearest first, and of the end
abbrev pub faults_behind : (end : ℕ) → (before : List Placed) → List Placed → List Fault
faults_behind end before [] = end_faults end before
faults_behind end before (c ∷ more) = command_faults before c ++ faults_behind end (c ∷ before) more

-- a fault of a token stands at the end of the tokens
abbrev pub token_faults : Option LexFault → List Fault
token_faults None = []
token_faults (Some f) = fault (lex_place f) BadToken ∷ []

abbrev pub end_of : (size : ℕ) → Option LexFault → ℕ
end_of size None = size
end_of size (Some f) = lex_place f

-- all faults of a text that have a place of their own, but for worlds of a `Dependency` that aren't there
abbrev pub all_faults : (size : ℕ) → Lexed → List Fault
all_faults size tokens =
    let end = end_of size tokens.fault in
    token_faults tokens.fault ++ faults_behind end [] (commands end (standing tokens.words))

-- ---- the game

pub record Named : Type 0 where
  pub name : Name
  pub at : ℕ

pub record WorldText : Type 0 where
  pub name : Name
  pub title : List ℕ
  pub introduction : List ℕ
  pub levels : ℕ

-- a world needs another one
pub record Need : Type 0 where
  pub before : ℕ
  pub after : ℕ

pub record Level : Type 0 where
  pub world : ℕ
  pub number : ℕ
  pub title : List ℕ
  pub introduction : List ℕ
  pub conclusion : List ℕ
  pub name : Option Name
  pub statement : Statement
  pub sample : Option (List Entry)
  pub new_tactics : List TacticName
  pub new_theorems : List Named
  pub disabled_tactics : List TacticName
  pub disabled_theorems : List Named
  pub only_tactics : Option (List TacticName)
  pub only_theorems : Option (List Named)

pub record Game : Type 0 where
  pub title : List ℕ
  pub introduction : List ℕ
  pub conclusion : List ℕ
  pub declared : Declarations
  pub worlds : List WorldText
  pub needs : List Need
  pub levels : List Level

-- The first title, introduction or conclusion of a holder. Lists of commands here have the nearest first.
abbrev pub text_held : Which → Holder → List Placed → Option (List ℕ)
text_held which h [] = None
text_held which h (c ∷ before) = elim c.command [
  | text w t ↦ if same_which which w && same_holder h (holder before) then option_or (text_held which h before) (option_map text_of t.value) else text_held which h before
  | _ ↦ text_held which h before
]

abbrev pub text_or_none : Which → Holder → List Placed → List ℕ
text_or_none which h all = unwrap_or (text_held which h all) []

-- the text of the first `Game`
abbrev pub game_text : List Placed → Option (List ℕ)
game_text [] = None
game_text (c ∷ before) = elim c.command [ game t ↦ option_or (game_text before) (option_map text_of t.value) | _ ↦ game_text before ]

abbrev pub place_in : List Name → Name → Option ℕ
place_in names x = position (bytes_eq x) names

abbrev pub world_text : List Placed → Name → WorldText
world_text all x = record { name = x; title = text_or_none Title (of_world x) all; introduction = text_or_none Introduction (of_world x) all; levels = levels_of (Some x) all }

-- ---- needs

-- in order of the text
abbrev pub links : List Placed → List Link
links [] = []
links (c ∷ before) = elim c.command [ dependency t ↦ links before ++ t.value | _ ↦ links before ]

abbrev pub link_words : List Link → List Word
link_words [] = []
link_words (l ∷ ls) = l.before ∷ l.after ∷ link_words ls

abbrev pub is_unknown_world : List Name → Word → Bool
is_unknown_world names w = not (list_any (bytes_eq w.text) names)

-- a world that isn't there; the words stand in order of place but for a world between two arrows, which comes twice
abbrev pub unknown_worlds : List Name → List Word → List ℕ
unknown_worlds names [] = []
unknown_worlds names (w ∷ ws) = if is_unknown_world names w then w.at ∷ unknown_worlds names ws else unknown_worlds names ws

abbrev pub need_of : List Name → Link → Need
need_of names l = record { before = unwrap_or (place_in names l.before.text) 0; after = unwrap_or (place_in names l.after.text) 0 }

abbrev pub is_need : Need → Need → Bool
is_need m n = (m.before == n.before) && (m.after == n.after)

-- each once, where it comes first
abbrev pub without_repeats : List Need → List Need → List Need
without_repeats had [] = []
without_repeats had (n ∷ ns) = if list_any (is_need n) had then without_repeats had ns else n ∷ without_repeats (n ∷ had) ns

abbrev pub needs : List Name → List Placed → List Need
needs names all = without_repeats [] (map (need_of names) (links all))

-- ---- levels

-- the commands of the current level, the nearest first
abbrev pub level_commands : List Placed → List Command
level_commands [] = []
level_commands (c ∷ before) = elim c.command [ level t ↦ [] | world t ↦ [] | _ ↦ c.command ∷ level_commands before ]

abbrev pub same_listed : Listed → Listed → Bool
same_listed New New = true
same_listed Disabled Disabled = true
same_listed Only Only = true
same_listed _ _ = false

-- what commands of one kind list, in order of the text
abbrev pub listed_tactics : Listed → List Command → List Word
listed_tactics which [] = []
listed_tactics which (c ∷ cs) = elim c [ tactics w t ↦ if same_listed which w then listed_tactics which cs ++ t.value else listed_tactics which cs | _ ↦ listed_tactics which cs ]

abbrev pub listed_theorems : Listed → List Command → List Word
listed_theorems which [] = []
listed_theorems which (c ∷ cs) = elim c [ theorems w t ↦ if same_listed which w then listed_theorems which cs ++ t.value else listed_theorems which cs | _ ↦ listed_theorems which cs ]

-- whether such a command stands: it has a name at least
abbrev pub unless_empty : {X : Type 0} → List X → Option (List X)
unless_empty [] = None
unless_empty (x ∷ xs) = Some (x ∷ xs)

abbrev pub moves_named : Word → List TacticName → List TacticName
moves_named w [] = []
moves_named w (t ∷ ts) = if bytes_eq w.text (word_of t) then t ∷ [] else moves_named w ts

abbrev pub tactics_of : List Word → List TacticName
tactics_of ws = flat_map (λ w. moves_named w moves) ws

abbrev pub theorem_named : Word → Named
theorem_named w = record { name = w.text; at = w.at }

abbrev pub theorems_of : List Word → List Named
theorems_of ws = map theorem_named ws

abbrev pub statement_of : List Command → Option StatementText
statement_of [] = None
statement_of (c ∷ cs) = elim c [ statement t ↦ Some t.value | _ ↦ statement_of cs ]

abbrev pub sample_read : Result (List Entry) ScriptFault → Option (List Entry)
sample_read (Ok es) = Some es
sample_read (Err e) = None

abbrev pub sample_of : Option Part → Option (List Entry)
sample_of None = None
sample_of (Some p) = if is_sorry p then None else sample_read (items_of p.tokens p.end true)

abbrev pub no_statement : Statement
no_statement = record { binders = []; target = falsum }

abbrev pub statement_meant : Declarations → Option StatementText → Statement
statement_meant d None = no_statement
statement_meant d (Some t) = unwrap_or (statement_read d t) no_statement

-- the name and the sample of a statement
abbrev pub name_of_statement : Option StatementText → Option Name
name_of_statement None = None
name_of_statement (Some t) = option_map (λ (w : Word). w.text) t.name

abbrev pub sample_of_statement : Option StatementText → Option (List Entry)
sample_of_statement None = None
sample_of_statement (Some t) = sample_of t.block

-- the declarations that stand before the statement of the current level
abbrev pub declarations_there : List Placed → Declarations
declarations_there [] = declarations []
declarations_there (c ∷ before) = elim c.command [ statement t ↦ declarations before | _ ↦ declarations_there before ]

-- the current level, behind all its commands
abbrev pub current_level : List Placed → Level
current_level all =
    let cs = level_commands all in
    let s = statement_of cs in
    let h = of_level (level_count all) in
    record {
      world = unwrap_or (place_in (worlds all) (unwrap_or (current_world all) [])) 0;
      number = levels_of (current_world all) all;
      title = text_or_none Title h all;
      introduction = text_or_none Introduction h all;
      conclusion = text_or_none Conclusion h all;
      name = name_of_statement s;
      statement = statement_meant (declarations_there all) s;
      sample = sample_of_statement s;
      new_tactics = tactics_of (listed_tactics New cs);
      new_theorems = theorems_of (listed_theorems New cs);
      disabled_tactics = tactics_of (listed_tactics Disabled cs);
      disabled_theorems = theorems_of (listed_theorems Disabled cs);
      only_tactics = option_map tactics_of (unless_empty (listed_tactics Only cs));
      only_theorems = option_map theorems_of (unless_empty (listed_theorems Only cs));
    }

-- a list with the current level last, where there is one
abbrev pub ended_level : List Placed → List Level → List Level
ended_level before levels = if in_level before then levels ++ current_level before ∷ [] else levels

-- the levels that have ended: each before the `Level` or the `World` behind it
abbrev pub ended_levels : List Placed → List Level
ended_levels [] = []
ended_levels (c ∷ before) = elim c.command [ level t ↦ ended_level before (ended_levels before) | world t ↦ ended_level before (ended_levels before) | _ ↦ ended_levels before ]

abbrev pub levels : List Placed → List Level
levels all = ended_level all (ended_levels all)

-- what all commands of a text mean
abbrev pub game_of : List Placed → Game
game_of all =
    let names = worlds all in
    record {
      title = unwrap_or (option_or (text_held Title of_game all) (game_text all)) [];
      introduction = text_or_none Introduction of_game all;
      conclusion = text_or_none Conclusion of_game all;
      declared = declarations all;
      worlds = map (world_text all) names;
      needs = needs names all;
      levels = levels all;
    }

-- ---- texts

-- a game; or the one fault that is told: so many bytes, which are too many (G2); the place of the first byte that is no
-- UTF-8 (G1); the first fault in the order of places (G3 to G7, G12, G13); the place of a world that isn't there (G5)
pub data Reading : Type 0 where
  Good : Game → Reading
  TooLong : ℕ → Reading
  NotUtf8 : ℕ → Reading
  Bad : Fault → Reading
  NoWorld : ℕ → Reading

abbrev pub nearest_first : {X : Type 0} → List X → List X → List X
nearest_first done [] = done
nearest_first done (x ∷ xs) = nearest_first (x ∷ done) xs

abbrev pub least_place : List ℕ → Option ℕ
least_place [] = None
least_place (n ∷ ns) = Some (elim (least_place ns) [ None ↦ n | Some m ↦ min n m ])

abbrev pub with_worlds : Game → Option ℕ → Reading
with_worlds g None = Good g
with_worlds g (Some at) = NoWorld at

abbrev pub good_reading : List Placed → Reading
good_reading all = with_worlds (game_of all) (least_place (unknown_worlds (worlds all) (link_words (links all))))

-- what tokens are
abbrev pub tokens_reading : (size : ℕ) → Lexed → Reading
tokens_reading size tokens =
    elim (least (all_faults size tokens)) [
      | Some f ↦ Bad f
      | None ↦ good_reading (nearest_first [] (commands (end_of size tokens.fault) (standing tokens.words)))
    ]

abbrev pub text_limit : ℕ
text_limit = 1048576

-- what a text is
abbrev pub reading : List ℕ → Reading
reading bytes =
    if nat_lt text_limit (length bytes) then TooLong (length bytes)
    else (if is_utf8 bytes then tokens_reading (length bytes) (lexed bytes) else NotUtf8 (utf8_valid_len bytes))
