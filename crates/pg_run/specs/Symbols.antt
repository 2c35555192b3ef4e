-- Each token as the symbol that it is in a one-level game.
use Rattle.std.specs.Prelude.{ℕ, Bool, true, false, ◌&&◌, ◌||◌, List, [], ◌∷◌, length, codes, if◌then◌else◌, ◌==◌, nat_le, Option, Some, None}
use Rattle.std.specs.Char.{is_ascii_alphabetic, is_ascii_alphanumeric}
use Rattle.std.specs.Str.{bytes_eq}
use Rattle.std.specs.List.{list_all}
use Rattle.pg_base.specs.declared.token.Sign.{Sign}
use Rattle.pg_base.specs.declared.token.Sign.TheVariants as signs
use Rattle.pg_base.specs.declared.token.TokenKind.{TokenKind}
use Rattle.pg_base.specs.declared.token.TokenKind.TheVariants as kinds
use Rattle.pg_base.specs.Tokens.{Word}
use Rattle.pg_worlds.specs.declared.tactic_name.TacticName.{TacticName}
use Rattle.pg_moves.specs.Acts.{move_named}
use Rattle.pg_run.specs.declared.symbol.Symbol.{Symbol}
use Rattle.pg_run.specs.declared.symbol.Symbol.TheVariants.{World, WorldName, Level, One, Statement, Colon, Zero, Succ, Open, Close, Equal, Assign, By, Sorry, NewTactic, Tactic, Other}

abbrev pub begins_with_letter : List ℕ → Bool
begins_with_letter [] = false
begins_with_letter (b ∷ bs) = is_ascii_alphabetic b

-- ASCII letters, digits and `_`
abbrev pub are_word_bytes : List ℕ → Bool
are_word_bytes bs = list_all (λ c. is_ascii_alphanumeric c || (c == 95)) bs

-- 1 to 32 of these, the first a letter
abbrev pub is_world_name : List ℕ → Bool
is_world_name bs = begins_with_letter bs && nat_le (length bs) 32 && are_word_bytes bs

-- a name at the front of its line
abbrev pub command_symbol : List ℕ → Symbol
command_symbol text =
    if bytes_eq text (codes "World") then World
    else (if bytes_eq text (codes "Level") then Level
    else (if bytes_eq text (codes "Statement") then Statement
    else (if bytes_eq text (codes "NewTactic") then NewTactic
    else Other)))

-- a move's word, and any other text
abbrev pub symbol_of_move : Option TacticName → Symbol
symbol_of_move (Some t) = Tactic t
symbol_of_move None = Other

abbrev pub tactic_symbol : List ℕ → Symbol
tactic_symbol text = symbol_of_move (move_named text)

-- a name behind another token of its line
abbrev pub name_symbol : List ℕ → Symbol
name_symbol text =
    if bytes_eq text (codes "succ") then Succ
    else (if bytes_eq text (codes "by") then By
    else (if bytes_eq text (codes "sorry") then Sorry
    else tactic_symbol text))

abbrev pub number_symbol : List ℕ → Symbol
number_symbol text = if bytes_eq text (codes "0") then Zero else (if bytes_eq text (codes "1") then One else Other)

abbrev pub sign_symbol : Sign → Symbol
sign_symbol signs.OpenParen = Open
sign_symbol signs.CloseParen = Close
sign_symbol signs.Colon = Colon
sign_symbol signs.Equal = Equal
sign_symbol signs.Assign = Assign
sign_symbol sign = Other

-- the first token of a line is a command at column 0
abbrev pub first_symbol : TokenKind → List ℕ → Bool → Symbol
first_symbol kinds.Name text true = command_symbol text
first_symbol kind text at_front = Other

abbrev pub later_symbol : TokenKind → List ℕ → Symbol
later_symbol kinds.Name text = name_symbol text
later_symbol kinds.Number text = number_symbol text
later_symbol kinds.Text text = if is_world_name text then WorldName else Other
later_symbol (kinds.Sign sign) text = sign_symbol sign

abbrev pub symbol_of : Word → Symbol
symbol_of w = if w.first then first_symbol w.kind w.text (w.column == 0) else later_symbol w.kind w.text
