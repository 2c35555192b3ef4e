-- All tokens of a text.
use Rattle.std.specs.Prelude.{◌≡◌, ℕ, List, map, Some, None, Result, Ok, Err, Vec}
use Rattle.std.specs.declared.alloc.Global.{Global}
use Rattle.pg_base.specs.declared.token.Token.{Token}
use Rattle.pg_base.specs.declared.lexer.TokensFault.{TokensFault}
use Rattle.pg_base.specs.declared.lexer.TokensFault.TheVariants.{Lex, OutOfMemory}
use Rattle.pg_base.specs.Tokens.{Word, Lexed, word}
use Rattle.pg_base.specs.Spans.{IsMadeOnlyOf}

-- All tokens, or the fault that comes after them.
abbrev pub GivesTokens : Lexed → Result (Vec Token Global) TokensFault → Type 0
GivesTokens all (Ok tokens) = (map word tokens.items ≡ all.words) × (all.fault ≡ None)
GivesTokens all (Err (Lex fault)) = all.fault ≡ Some fault
GivesTokens all (Err OutOfMemory) = Unit {0}

-- Gaps and the tokens are the whole text; or gaps, some tokens and the fault are.
abbrev pub GivesMadeOnlyOf : List ℕ → Result (Vec Token Global) TokensFault → Type 0
GivesMadeOnlyOf source (Ok tokens) = IsMadeOnlyOf source (map word tokens.items) None
GivesMadeOnlyOf source (Err (Lex fault)) = (words : List Word) × IsMadeOnlyOf source words (Some fault)
GivesMadeOnlyOf source (Err OutOfMemory) = Unit {0}
