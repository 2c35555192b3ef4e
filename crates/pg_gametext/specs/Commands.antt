-- The commands of a game text: which lines are passed over, and how the other tokens fall into commands.
use Rattle.std.specs.Prelude.{ℕ, zero, suc, Bool, true, false, ◌&&◌, ◌||◌, not, List, [], ◌∷◌, take, drop, if◌then◌else◌, ◌==◌, codes}
use Rattle.std.specs.Str.{bytes_eq}
use Rattle.pg_base.specs.declared.token.TokenKind.{TokenKind}
use Rattle.pg_base.specs.declared.token.TokenKind.TheVariants as kind
use Rattle.pg_base.specs.Reserved.{is_one_of, is_game_word, is_level_word, is_passed_word, is_reserved}
use Rattle.pg_base.specs.Tokens.{Word}
use Rattle.pg_script.specs.Marks.{is_name, place}

-- ---- kinds of tokens

abbrev pub is_number_kind : TokenKind → Bool
is_number_kind kind.Number = true
is_number_kind _ = false

abbrev pub is_text_kind : TokenKind → Bool
is_text_kind kind.Text = true
is_text_kind _ = false

abbrev pub is_number : Word → Bool
is_number w = is_number_kind w.kind

abbrev pub is_text : Word → Bool
is_text w = is_text_kind w.kind

-- a name that isn't reserved
abbrev pub is_plain : Word → Bool
is_plain w = is_name w && not (is_reserved w.text)

-- this word
abbrev pub is_word : List ℕ → Word → Bool
is_word text w = is_name w && bytes_eq w.text text

-- ---- lines that are passed over

-- a line that begins so at column 0 is passed over
abbrev pub begins_passed_line : Word → Bool
begins_passed_line w = is_name w && (w.column == 0) && is_one_of (codes "import" ∷ codes "namespace" ∷ codes "open" ∷ codes "end" ∷ []) w.text

-- The tokens that stand: without the lines that are passed over. The flag says that such a line goes on.
abbrev pub standing_after : Bool → List Word → List Word
standing_after passed [] = []
standing_after passed (w ∷ ws) = if begins_passed_line w || (passed && not w.first) then standing_after true ws else w ∷ standing_after false ws

abbrev pub standing : List Word → List Word
standing ws = standing_after false ws

-- ---- commands

-- a word that begins a command
abbrev pub is_command : Word → Bool
is_command w = is_name w && (is_game_word w.text || is_level_word w.text || is_passed_word w.text)

-- a word that begins a command which is passed over
abbrev pub is_passed : Word → Bool
is_passed w = is_name w && is_passed_word w.text

-- A command goes on up to the next such word; one that is passed over goes on up to the next at column 0.
abbrev pub ends_command : (passed : Bool) → Word → Bool
ends_command passed w = is_command w && (not passed || (w.column == 0))

abbrev pub body_length : (passed : Bool) → List Word → ℕ
body_length passed [] = 0
body_length passed (w ∷ ws) = if ends_command passed w then 0 else suc (body_length passed ws)

-- a command's word, the tokens behind it, and where the next command or the end stands
pub record Piece : Type 0 where
  pub word : Word
  pub body : List Word
  pub end : ℕ

-- The pieces stand one behind the other. The first so many tokens belong to the piece before. Only the first piece of
-- a text can begin with a token that is no command's word.
abbrev pub pieces_from : (skip end : ℕ) → List Word → List Piece
pieces_from skip end [] = []
pieces_from (suc skip) end (w ∷ ws) = pieces_from skip end ws
pieces_from zero end (w ∷ ws) =
    let n = body_length (is_passed w) ws in
    record { word = w; body = take n ws; end = place end (drop n ws) } ∷ pieces_from n end ws

abbrev pub pieces : (end : ℕ) → List Word → List Piece
pieces end ws = pieces_from 0 end ws
