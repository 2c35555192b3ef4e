-- One-level games.
use Rattle.std.specs.Prelude.{◌≡◌, ◌<◌, ◌≤◌, ℕ, suc, true, List, [], ◌∷◌, ◌++◌, Option, Some, None, length, map}
use Rattle.std.specs.Str.{is_utf8}
use Rattle.pg_logic.specs.Tree.{Tm, nought, succ, Fm, eq}
use Rattle.pg_terms.specs.View.{formula}
use Rattle.pg_base.specs.Tokens.{lexed}
use Rattle.pg_worlds.specs.declared.tactic_name.TacticName.{TacticName}
use Rattle.pg_worlds.specs.declared.tactic_name.TacticName.TheVariants as tactic
use Rattle.pg_run.specs.Symbols.{symbol_of}
use Rattle.pg_run.specs.declared.game.Game.{Game}
use Rattle.pg_run.specs.declared.game.Sample.{Sample}
use Rattle.pg_run.specs.declared.game.Sample.TheVariants as sample
use Rattle.pg_run.specs.declared.symbol.Symbol.{Symbol}
use Rattle.pg_run.specs.declared.symbol.Symbol.TheVariants.{World, WorldName, Level, One, Statement, Colon, Zero, Succ, Open, Close, Equal, Assign, By, Sorry, NewTactic, Tactic}

-- how a numeral is written: `0`, `succ 0`, `succ (T)`, `(T)`
pub data Shape : Type 0 where
  Plain : Shape
  Successor : Shape
  SuccessorOf : Shape → Shape
  Grouped : Shape → Shape

abbrev pub spelled : Shape → List Symbol
spelled Plain = Zero ∷ []
spelled Successor = Succ ∷ Zero ∷ []
spelled (SuccessorOf s) = Succ ∷ Open ∷ (spelled s ++ Close ∷ [])
spelled (Grouped s) = Open ∷ (spelled s ++ Close ∷ [])

-- how many parentheses are open at once
abbrev pub depth : Shape → ℕ
depth Plain = 0
depth Successor = 0
depth (SuccessorOf s) = suc (depth s)
depth (Grouped s) = suc (depth s)

abbrev pub meaning : Shape → Tm
meaning Plain = nought
meaning Successor = succ nought
meaning (SuccessorOf s) = succ (meaning s)
meaning (Grouped s) = meaning s

abbrev pub sample_symbol : Sample → Symbol
sample_symbol sample.Rfl = Tactic tactic.Rfl
sample_symbol sample.Sorry = Sorry

-- what a game tells: the target of its level, its sample, and the moves of its `NewTactic`
pub record Stated : Type 0 where
  pub target : Fm
  pub sample : Sample
  pub tactics : List TacticName

-- the symbols behind a statement: `:= by`, its sample, `NewTactic` with the words of one or more moves
abbrev pub ending : Sample → List TacticName → List Symbol
ending s tactics = Assign ∷ By ∷ sample_symbol s ∷ NewTactic ∷ map Tactic tactics

-- World TEXT, Level 1, Statement : left = right := by sample, NewTactic tactics
abbrev pub game_symbols : Shape → Shape → Sample → List TacticName → List Symbol
game_symbols left right s tactics =
    World ∷ WorldName ∷ Level ∷ One ∷ Statement ∷ Colon ∷ (spelled left ++ Equal ∷ (spelled right ++ ending s tactics))

-- the symbols spell a game that tells this, with one move or more
pub record IsGame (symbols : List Symbol) (g : Stated) : Type 0 where
  pub left : Shape
  pub right : Shape
  pub left_nesting : depth left ≤ 100
  pub right_nesting : depth right ≤ 100
  pub spelling : symbols ≡ game_symbols left right g.sample g.tactics
  pub states : g.target ≡ eq (meaning left) (meaning right)
  pub some_move : 0 < length g.tactics

-- a text of at most 1 MiB that spells such a game
pub record IsGameText (text : List ℕ) (g : Stated) : Type 0 where
  pub size : length text ≤ 1048576
  pub utf8 : is_utf8 text ≡ true
  pub no_fault : (lexed text).fault ≡ None
  pub game : IsGame (map symbol_of (lexed text).words) g

-- what a game that was found tells
abbrev pub stated : Game → Stated
stated g = record { target = formula g.target.formula; sample = g.sample; tactics = g.tactics.items }

-- the game that was found is one, and where none was found there is none
abbrev pub Finds : Option Game → (Stated → Type 0) → Type 0
Finds None IsOne = (g : Stated) → IsOne g → ⊥
Finds (Some game) IsOne = IsOne (stated game)
