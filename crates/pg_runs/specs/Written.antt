-- What is asked of the moves of a script: their tokens have texts of their kinds. Each script that is read is so.
use Rattle.std.specs.Prelude.{◌≡◌, ◌≢◌, ℕ, ◌<◌, ◌≤◌, ◌^◌, Bool, List, [], ◌∷◌, All, Option, Some, None, Ok}
use Rattle.pg_base.specs.Tokens.{Word, lexed}
use Rattle.pg_base.specs.Spans.{AreTokens, IsMadeOf}
use Rattle.pg_script.specs.Blocks.{steps_of}
use Rattle.pg_script.specs.Data.{Part, Expression, Rule, Shape, plain, exact, intro, apply, rewrite, split, uses, symm, have, revert, by_cases, unknown, Step, Entry, move, focus, branch, hint, Entries, none, entry, entries_of}
use Rattle.pg_script.specs.Scripts.{entries_of_tokens, script_of}
use Rattle.pg_goal.specs.Conditions.{AreTexts}
use Rattle.pg_moves.specs.Runs.{items_among, parts_among}

-- ---- the tokens behind a move's word

-- a token in the place of a name isn't empty
abbrev pub IsNamed : Word → Type 0
IsNamed w = w.text ≢ []

abbrev pub AreNamed : List Word → Type 0
AreNamed ws = All IsNamed ws

-- what may be left out is so, where it stands
abbrev pub Maybe : {X : Type 0} → (X → Type 0) → Option X → Type 0
Maybe P None = Unit {0}
Maybe P (Some x) = P x

-- the tokens of a part, of an expression's arguments, have texts of their kinds
abbrev pub HasTexts : Part → Type 0
HasTexts p = AreTexts (p ∷ [])

abbrev pub HaveTexts : Expression → Type 0
HaveTexts e = AreTexts e.args

-- The new names of a move aren't empty, and the tokens of its terms, formulas and arguments have texts of their kinds.
abbrev pub IsShapely : Shape → Type 0
IsShapely plain = Unit {0}
IsShapely (exact e) = HaveTexts e
IsShapely (intro xs) = AreNamed xs
IsShapely (apply e h) = HaveTexts e
IsShapely (rewrite rs h) = All (λ (r : Rule). HaveTexts r.expr) rs
IsShapely (split x xs) = AreNamed xs
IsShapely (uses ps) = AreTexts ps
IsShapely (symm h) = Unit {0}
IsShapely (have h p e) = IsNamed h × Maybe HasTexts p × Maybe HaveTexts e
IsShapely (revert x) = IsNamed x
IsShapely (by_cases h p) = IsNamed h × HasTexts p
IsShapely unknown = Unit {0}

-- ---- moves and items

-- a move with a word, and with such tokens
pub record IsWritten (m : Step) : Type 0 where
  pub head : m.head ≢ []
  pub few : steps_of m.shape < 2 ^ 32
  pub tokens : IsShapely m.shape

-- each move of an item, of items, is so
abbrev mutual
  pub AreWrittenIn : Entry → Type 0
  AreWrittenIn (move m) = IsWritten m
  AreWrittenIn (focus es) = AreWritten es
  AreWrittenIn (branch es) = AreWritten es
  AreWrittenIn (hint h) = Unit {0}

  pub AreWritten : Entries → Type 0
  AreWritten none = Unit {0}
  AreWritten (entry e es) = AreWrittenIn e × AreWritten es

-- ---- laws

-- Items that are so, fewer than 2^32, with at most 200 parts.
pub record AreRead (es : List Entry) : Type 0 where
  pub written : AreWritten (entries_of es)
  pub items : items_among (entries_of es) < 2 ^ 32
  pub parts : parts_among (entries_of es) ≤ 200

-- what tokens of a text are read as
abbrev pub ItemsLaw : Type 0
ItemsLaw = (ws : List Word) (end : ℕ) (sample : Bool) (es : List Entry) → AreTokens end ws → end < 2 ^ 32 → entries_of_tokens ws end sample ≡ Ok es → AreRead es

-- what a text is read as, which is laid out as its tokens
abbrev pub ScriptLaw : Type 0
ScriptLaw = (source : List ℕ) (sample : Bool) (es : List Entry) → IsMadeOf source (lexed source).words (lexed source).fault → script_of source sample ≡ Ok es → AreRead es
