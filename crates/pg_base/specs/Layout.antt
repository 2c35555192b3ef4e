-- How a text is made of gaps and tokens, told without a lexer: what a gap, a token and a fault are, and that
-- they stand one behind the other. A text is made of its tokens in one way only, and the lexer gives these.
use Rattle.std.specs.Prelude.{◌≡◌, ℕ, ◌+◌, ◌<◌, ◌≤◌, Bool, false, List, [], ◌∷◌, ◌++◌, length, drop, reverse, Option, Some, None, ◌==◌, ◌||◌, codes, IsTrue, IsFalse, ◌⊎◌}
use Rattle.std.specs.Char.{is_ascii_digit}
use Rattle.std.specs.Str.{encode_utf8_all}
use Rattle.pg_base.specs.declared.token.Sign.{Sign}
use Rattle.pg_base.specs.declared.token.TokenKind.{TokenKind}
use Rattle.pg_base.specs.declared.token.TokenKind.TheVariants.{Name, Number, Text, Sign as SignToken}
use Rattle.pg_base.specs.declared.token.LexFault.{LexFault}
use Rattle.pg_base.specs.declared.token.LexFault.TheVariants.{BadByte, OpenString, OpenComment, LongName}
use Rattle.pg_base.specs.Characters.{character, is_letter, is_blank, begins_with, begins_with_letter, begins_with_prefix_name, name_length, number_length, line_length, comment_length, text_length}
use Rattle.pg_base.specs.Signs.{sign_of_one, sign_of_two, sign_of_name}
use Rattle.pg_base.specs.Tokens.{Word}

-- ---- gaps

-- These characters are one gap before the rest.
pub data IsGap : (gap rest : List ℕ) → Type 0 where
  blank : (c : ℕ) (rest : List ℕ) → IsTrue (is_blank c) → IsGap (c ∷ []) rest
  prefix_name : (rest : List ℕ) → IsTrue (begins_with_letter rest) → IsGap (codes "MyNat.") rest
  line_comment : (body rest : List ℕ) → line_length body ≡ length body → line_length rest ≡ 0 → IsGap (codes "--" ++ body) rest
  block_comment : (body rest : List ℕ) → comment_length 1 body ≡ Some (length body) → IsGap (codes "/-" ++ body) rest

-- ---- tokens

-- a letter and what goes on a name, and no `MyNat.` before a letter
abbrev pub IsName : List ℕ → Type 0
IsName cs = IsTrue (begins_with_letter cs) × (name_length cs ≡ length cs) × IsFalse (begins_with_prefix_name cs)

abbrev pub IsNumber : List ℕ → Type 0
IsNumber cs = (0 < length cs) × (number_length cs ≡ length cs)

-- between quotes: the first quote that isn't escaped is the one behind it
abbrev pub IsQuoted : List ℕ → Type 0
IsQuoted cs = text_length false (cs ++ character "\"" ∷ []) ≡ Some (length cs + 1)

-- no sign of two characters begins with this one
abbrev pub IsAlone : ℕ → List ℕ → Type 0
IsAlone c [] = Unit {0}
IsAlone c (d ∷ rest) = sign_of_two c d ≡ None

abbrev pub IsShortSign : Sign → List ℕ → List ℕ → Type 0
IsShortSign sign [] rest = ⊥
IsShortSign sign (c ∷ []) rest = (sign_of_one c ≡ Some sign) × IsAlone c rest
IsShortSign sign (c ∷ d ∷ []) rest = sign_of_two c d ≡ Some sign
IsShortSign sign (c ∷ d ∷ e ∷ cs) rest = ⊥

abbrev pub IsNameSign : Sign → List ℕ → List ℕ → Type 0
IsNameSign sign cs rest = IsName cs × (name_length rest ≡ 0) × (sign_of_name (encode_utf8_all cs) ≡ Some sign)

-- These characters are the text of one token before the rest, as long as it can be.
abbrev pub IsToken : TokenKind → List ℕ → List ℕ → Type 0
IsToken Name cs rest = IsName cs × (name_length rest ≡ 0) × (length (encode_utf8_all cs) ≤ 48) × (sign_of_name (encode_utf8_all cs) ≡ None)
IsToken Number cs rest = IsNumber cs × (number_length rest ≡ 0) × (length (encode_utf8_all cs) ≤ 48)
IsToken Text cs rest = IsQuoted cs
IsToken (SignToken sign) cs rest = IsShortSign sign cs rest ⊎ IsNameSign sign cs rest

-- a token's text as it stands in the source
abbrev pub written : TokenKind → List ℕ → List ℕ
written Text text = character "\"" ∷ text ++ character "\"" ∷ []
written kind text = text

-- ---- faults

-- no gap, no token and no other fault begins here
pub record BeginsNothing (c : ℕ) (cs : List ℕ) : Type 0 where
  pub no_blank : IsFalse (is_blank c)
  pub no_line_comment : IsFalse (begins_with (codes "--") (c ∷ cs))
  pub no_block_comment : IsFalse (begins_with (codes "/-") (c ∷ cs))
  pub no_letter : IsFalse (is_letter c)
  pub no_digit : IsFalse (is_ascii_digit c)
  pub no_quote : IsFalse (c == character "\"")
  pub no_sign : sign_of_one c ≡ None
  pub no_long_sign : IsAlone c cs

-- a name or a number of more than 48 bytes
pub record BeginsLong (cs : List ℕ) : Type 0 where
  pub text : List ℕ
  pub rest : List ℕ
  pub whole : cs ≡ text ++ rest
  pub kind : (IsName text × (name_length rest ≡ 0)) ⊎ (IsNumber text × (number_length rest ≡ 0))
  pub long : 48 < length (encode_utf8_all text)

-- the fault of these characters, which begin at this byte
abbrev pub IsFault : LexFault → ℕ → List ℕ → Type 0
IsFault (BadByte at) place [] = ⊥
IsFault (BadByte at) place (c ∷ cs) = (at ≡ place) × BeginsNothing c cs
IsFault (OpenString at) place cs = (at ≡ place) × IsTrue (begins_with (codes "\"") cs) × (text_length false (drop 1 cs) ≡ None)
IsFault (OpenComment at) place cs = (at ≡ place) × IsTrue (begins_with (codes "/-") cs) × (comment_length 1 (drop 2 cs) ≡ None)
IsFault (LongName at) place cs = (at ≡ place) × BeginsLong cs

-- ---- the whole text

abbrev pub has_line_feed : List ℕ → Bool
has_line_feed [] = false
has_line_feed (c ∷ cs) = (c == 10) || has_line_feed cs

-- a token before the rest, behind these characters of the text and these since the last token began
pub record IsWord (before since text rest : List ℕ) (w : Word) : Type 0 where
  pub token : IsToken w.kind text rest
  pub text_is : w.text ≡ encode_utf8_all text
  pub at_is : w.at ≡ length (encode_utf8_all before)
  pub column_is : w.column ≡ line_length (reverse before)
  pub first_is : w.first ≡ has_line_feed since

-- Gaps and tokens stand one behind the other, up to the end or a fault. Before them stand these characters
-- of the text, the second those since the last token began.
pub data LaidOut : (before since cs : List ℕ) → List Word → Option LexFault → Type 0 where
  ends : (before since : List ℕ) → LaidOut before since [] [] None
  breaks : (before since cs : List ℕ) (fault : LexFault) → IsFault fault (length (encode_utf8_all before)) cs → LaidOut before since cs [] (Some fault)
  gap : (before since gap rest : List ℕ) (words : List Word) (fault : Option LexFault) → IsGap gap rest
      → LaidOut (before ++ gap) (since ++ gap) rest words fault → LaidOut before since (gap ++ rest) words fault
  token : (before since text rest : List ℕ) (w : Word) (words : List Word) (fault : Option LexFault) → IsWord before since text rest w
      → LaidOut (before ++ written w.kind text) (written w.kind text) rest words fault → LaidOut before since (written w.kind text ++ rest) (w ∷ words) fault
