-- Where the tokens of a text stand, and what their texts are.
use Rattle.std.specs.Prelude.{◌≡◌, ℕ, ◌+◌, ◌≤◌, List, [], ◌∷◌, length, take, drop, All, Option}
use Rattle.std.specs.Str.{chars}
use Rattle.pg_base.specs.declared.token.TokenKind.{TokenKind}
use Rattle.pg_base.specs.declared.token.LexFault.{LexFault}
use Rattle.pg_base.specs.Tokens.{Word}
use Rattle.pg_base.specs.Layout.{IsToken, written, LaidOut}

-- a token of this kind can have this text
abbrev pub IsTokenText : TokenKind → List ℕ → Type 0
IsTokenText kind text = IsToken kind (chars text) []

-- the byte behind a token, a text's closing quote included
abbrev pub token_end : Word → ℕ
token_end w = w.at + length (written w.kind w.text)

-- Tokens in order of place that don't overlap. They begin at `at` or behind it, and end at `end` or before it.
abbrev pub AreInOrder : (at end : ℕ) → List Word → Type 0
AreInOrder at end [] = at ≤ end
AreInOrder at end (w ∷ words) = (at ≤ w.at) × AreInOrder (token_end w) end words

-- Tokens that are read before the byte `end`, from a text or by hand.
pub record AreTokens (end : ℕ) (words : List Word) : Type 0 where
  pub in_order : AreInOrder 0 end words
  pub texts : All (λ (w : Word). IsTokenText w.kind w.text) words

-- The token's text stands in the source at its place, a text between its quotes.
abbrev pub StandsIn : List ℕ → Word → Type 0
StandsIn source w = take (length (written w.kind w.text)) (drop w.at source) ≡ written w.kind w.text

-- Tokens of this text.
pub record AreTokensOf (source : List ℕ) (words : List Word) : Type 0 where
  pub tokens : AreTokens (length source) words
  pub stand : All (StandsIn source) words

-- Gaps, these tokens and this fault are the whole text. The first token is the first of its line: before the
-- text one has ended.
abbrev pub IsMadeOf : (source : List ℕ) → List Word → Option LexFault → Type 0
IsMadeOf source words fault = LaidOut [] (10 ∷ []) (chars source) words fault

-- The same, and of no other tokens and no other fault.
pub record IsMadeOnlyOf (source : List ℕ) (words : List Word) (fault : Option LexFault) : Type 0 where
  pub made : IsMadeOf source words fault
  pub only : (others : List Word) (other : Option LexFault) → IsMadeOf source others other → (others ≡ words) × (other ≡ fault)
