-- Scripts: of tokens, and of a text.
use Rattle.std.specs.Prelude.{ℕ, ◌+◌, ◌-◌, Bool, false, List, [], ◌∷◌, length, map, Option, Some, None, Ok, Err, if◌then◌else◌, nat_lt}
use Rattle.pg_base.specs.declared.token.LexFault.{LexFault}
use Rattle.pg_base.specs.declared.token.LexFault.TheVariants.{BadByte, OpenString, OpenComment, LongName}
use Rattle.pg_base.specs.Spans.{token_end}
use Rattle.pg_base.specs.Tokens.{Word, lexed}
use Rattle.pg_script.specs.declared.fault.ScriptFault.{ScriptFault}
use Rattle.pg_script.specs.declared.fault.ScriptFault.TheVariants.{TooLong, Lex, Expected, TooMany, Deep}
use Rattle.pg_script.specs.declared.item.Script.{Script}
use Rattle.pg_script.specs.Data.{Entry}
use Rattle.pg_script.specs.View.{entry}
use Rattle.pg_script.specs.Lines.{Read, and_then, unless_fault, ended}
use Rattle.pg_script.specs.Blocks.{block_at}

-- a script's items, as plain data
abbrev pub script : Script → List Entry
script s = map entry s.items

-- The tokens of a script, up to the end: one block of at most 16 that are nested, with at most 200 steps, or nothing.
unfoldable pub entries_of_tokens : List Word → (end : ℕ) → (sample : Bool) → Read (List Entry)
entries_of_tokens [] end sample = Ok []
entries_of_tokens (w ∷ ws) end sample = and_then (block_at 16 sample end 200 (w ∷ ws)) (λ b. ended b.0 b.2)

-- the byte behind the last token, or the one given where there is none
abbrev pub last_end : ℕ → List Word → ℕ
last_end at [] = at
last_end at (w ∷ ws) = last_end (token_end w) ws

-- over 16,384 bytes from the first token to the end of the last
abbrev pub long_fault : List Word → Option ScriptFault
long_fault [] = None
long_fault (w ∷ ws) = if nat_lt 16384 (last_end w.at (w ∷ ws) - w.at) then Some (TooLong (w.at + 16384)) else None

-- what tokens of a longer text are
abbrev pub items_of : List Word → (end : ℕ) → (sample : Bool) → Read (List Entry)
items_of ws end sample = and_then (unless_fault (long_fault ws) ws) (λ short. entries_of_tokens short end sample)

abbrev pub lex_place : LexFault → ℕ
lex_place (BadByte at) = at
lex_place (OpenString at) = at
lex_place (OpenComment at) = at
lex_place (LongName at) = at

abbrev pub stands_before : ScriptFault → ℕ → Bool
stands_before (Expected at what) place = nat_lt at place
stands_before (TooMany at) place = nat_lt at place
stands_before (Deep at) place = nat_lt at place
stands_before _ place = false

-- a fault of a token counts where none of the script stands before it
abbrev pub broken_script : LexFault → Read (List Entry) → Read (List Entry)
broken_script fault (Ok es) = Err (Lex fault)
broken_script fault (Err e) = if stands_before e (lex_place fault) then Err e else Err (Lex fault)

abbrev pub lexed_script : List Word → Option LexFault → (end : ℕ) → (sample : Bool) → Read (List Entry)
lexed_script ws None end sample = entries_of_tokens ws end sample
lexed_script ws (Some fault) end sample = broken_script fault (entries_of_tokens ws (lex_place fault) sample)

-- what a text is
abbrev pub script_of : List ℕ → (sample : Bool) → Read (List Entry)
script_of source sample =
    if nat_lt 16384 (length source) then Err (TooLong 16384)
    else lexed_script (lexed source).words (lexed source).fault (length source) sample
