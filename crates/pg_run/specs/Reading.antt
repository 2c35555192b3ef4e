-- Reading a one-level game from its front, where at most so many parentheses may still be opened.
use Rattle.std.specs.Prelude.{ℕ, zero, suc, List, [], ◌∷◌, Option, Some, None, option_map, option_and_then}
use Rattle.std.specs.Borrow.{Bor}
use Rattle.pg_logic.specs.Tree.{Tm, nought, succ, eq}
use Rattle.pg_terms.specs.View.{term}
use Rattle.pg_run.specs.declared.numeral.Numeral.{Numeral}
use Rattle.pg_worlds.specs.declared.tactic_name.TacticName.{TacticName}
use Rattle.pg_worlds.specs.declared.tactic_name.TacticName.TheVariants as tactic
use Rattle.pg_run.specs.declared.game.Game.{Game}
use Rattle.pg_run.specs.Game.{Stated, stated}
use Rattle.pg_run.specs.declared.game.Tail.{Tail}
use Rattle.pg_run.specs.declared.game.Sample.{Sample}
use Rattle.pg_run.specs.declared.game.Sample.TheVariants as sample
use Rattle.pg_run.specs.declared.symbol.Symbol.{Symbol}
use Rattle.pg_run.specs.declared.symbol.Symbol.TheVariants.{World, WorldName, Level, One, Statement, Colon, Zero, Succ, Open, Close, Equal, Assign, By, Sorry, NewTactic, Tactic}

-- a term that was read, and the symbols after it
abbrev pub Found : Type 0
Found = Option (Tm × List Symbol)

-- what stands behind a closing parenthesis
abbrev pub after_close : List Symbol → Option (List Symbol)
after_close (Close ∷ rest) = Some rest
after_close symbols = None

-- what was found, if the parenthesis is closed behind it
abbrev pub closed : Found → Found
closed None = None
closed (Some (t, symbols)) = option_map (λ rest. (t, rest)) (after_close symbols)

abbrev pub successor_of : Found → Found
successor_of None = None
successor_of (Some (t, rest)) = Some (succ t, rest)

-- behind `succ`, where inside reads what stands in parentheses, the closing one with it
abbrev pub argument : (List Symbol → Found) → List Symbol → Found
argument inside (Zero ∷ rest) = Some (succ nought, rest)
argument inside (Open ∷ rest) = successor_of (inside rest)
argument inside symbols = None

abbrev pub numeral_with : (List Symbol → Found) → List Symbol → Found
numeral_with inside (Zero ∷ rest) = Some (nought, rest)
numeral_with inside (Succ ∷ rest) = argument inside rest
numeral_with inside (Open ∷ rest) = inside rest
numeral_with inside symbols = None

unfoldable pub inside_at : ℕ → List Symbol → Found
inside_at zero symbols = None
inside_at (suc budget) symbols = closed (numeral_with (inside_at budget) symbols)

abbrev pub numeral_at : ℕ → List Symbol → Found
numeral_at budget = numeral_with (inside_at budget)

-- a numeral that was found, as its tree
abbrev pub seen : Option (Numeral × Bor (List Symbol)) → Found
seen None = None
seen (Some (numeral, rest)) = Some (term numeral.term, rest.now)

-- the symbols before the left side, between the sides, and behind them
abbrev pub after_heads : List Symbol → Option (List Symbol)
after_heads (World ∷ WorldName ∷ Level ∷ One ∷ Statement ∷ Colon ∷ rest) = Some rest
after_heads symbols = None

abbrev pub after_equal : List Symbol → Option (List Symbol)
after_equal (Equal ∷ rest) = Some rest
after_equal symbols = None

-- the moves of these symbols, where all of them are moves
abbrev pub moves_of : List Symbol → Option (List TacticName)
moves_of [] = Some []
moves_of (Tactic t ∷ rest) = option_map (λ ts. t ∷ ts) (moves_of rest)
moves_of _ = None

-- the sample that a symbol is
abbrev pub sample_at : Symbol → Option Sample
sample_at (Tactic tactic.Rfl) = Some sample.Rfl
sample_at Sorry = Some sample.Sorry
sample_at _ = None

-- a sample with one move or more
abbrev pub with_moves : Sample → Option (List TacticName) → Option (Sample × List TacticName)
with_moves s (Some (t ∷ ts)) = Some (s, t ∷ ts)
with_moves s tactics = None

-- the sample and the moves behind a statement
abbrev pub tail_at : List Symbol → Option (Sample × List TacticName)
tail_at (Assign ∷ By ∷ symbol ∷ NewTactic ∷ rest) = option_and_then (λ s. with_moves s (moves_of rest)) (sample_at symbol)
tail_at _ = None

-- what was found there, as its plain data
abbrev pub tail_of : Option Tail → Option (Sample × List TacticName)
tail_of found = option_map (λ e. (e.sample, e.tactics.items)) found

abbrev pub stated_of : Option Game → Option Stated
stated_of None = None
stated_of (Some game) = Some (stated game)

abbrev pub right_at : Tm → Found → Option Stated
right_at left None = None
right_at left (Some (right, symbols)) = option_map (λ e. record { target = eq left right; sample = e.0; tactics = e.1 }) (tail_at symbols)

abbrev pub left_at : Found → Option Stated
left_at None = None
left_at (Some (left, symbols)) = option_and_then (λ rest. right_at left (numeral_at 100 rest)) (after_equal symbols)

abbrev pub game_at : List Symbol → Option Stated
game_at symbols = option_and_then (λ rest. left_at (numeral_at 100 rest)) (after_heads symbols)
