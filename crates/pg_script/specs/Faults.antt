-- Where the fault of a text that is no script stands, told without a reader.
use Rattle.std.specs.Prelude.{◌≡◌, ℕ, ◌+◌, ◌≤◌, ◌<◌, Bool, List, [], ◌∷◌, ◌++◌, length, Option, Some, None, Result, Ok, Err, ◌⊎◌}
use Rattle.pg_base.specs.declared.token.LexFault.{LexFault}
use Rattle.pg_base.specs.Tokens.{Word, lexed}
use Rattle.pg_script.specs.declared.fault.ScriptFault.{ScriptFault}
use Rattle.pg_script.specs.declared.fault.ScriptFault.TheVariants.{TooLong, Lex, Expected, TooMany, Deep, OutOfMemory}
use Rattle.pg_script.specs.declared.item.Script.{Script}
use Rattle.pg_script.specs.Data.{Entry}
use Rattle.pg_script.specs.Grammar.{IsBlock, IsScript}
use Rattle.pg_script.specs.Scripts.{last_end}

-- No script begins with these tokens, whatever follows them.
abbrev pub BeginsNoScript : Bool → List Word → Type 0
BeginsNoScript sample ws = (more : List Word) (end : ℕ) (es : List Entry) → IsScript sample end (ws ++ more) es → ⊥

-- These tokens, up to the end, are this script, of however many steps and however deeply nested blocks.
pub data IsLongScript (sample : Bool) (end : ℕ) : List Word → List Entry → Type 0 where
  nothing : IsLongScript sample end [] []
  one_block : (budget room left : ℕ) (w : Word) (ws : List Word) (es : List Entry) → IsBlock sample end budget w.column room left (w ∷ ws) [] es → IsLongScript sample end (w ∷ ws) es

-- Some script begins with these tokens, the limits on steps and on nested blocks aside.
abbrev pub BeginsScript : Bool → List Word → Type 0
BeginsScript sample ws = (more : List Word) × (end : ℕ) × (es : List Entry) × IsLongScript sample end (ws ++ more) es

-- One of these tokens begins at this byte. Some script begins with the tokens before it, and none with those and with it.
pub record StopsAtToken (sample : Bool) (ws : List Word) (at : ℕ) : Type 0 where
  pub front : List Word
  pub token : Word
  pub back : List Word
  pub whole : ws ≡ front ++ token ∷ back
  pub place : token.at ≡ at
  pub begun : BeginsScript sample front
  pub none : BeginsNoScript sample (front ++ token ∷ [])

-- This byte is the end. Some script begins with these tokens, but up to the end they are none.
abbrev pub StopsAtEnd : Bool → (end : ℕ) → List Word → (at : ℕ) → Type 0
StopsAtEnd sample end ws at = (at ≡ end) × BeginsScript sample ws × ((es : List Entry) → IsScript sample end ws es → ⊥)

-- The fault stands at one of these tokens.
abbrev pub StopsInside : Bool → List Word → ScriptFault → Type 0
StopsInside sample ws (Expected at what) = StopsAtToken sample ws at
StopsInside sample ws (TooMany at) = StopsAtToken sample ws at
StopsInside sample ws (Deep at) = StopsAtToken sample ws at
StopsInside sample ws _ = ⊥

-- The fault stands at one of these tokens, or something is missing at the end.
abbrev pub Stops : Bool → (end : ℕ) → List Word → ScriptFault → Type 0
Stops sample end ws (Expected at what) = StopsAtToken sample ws at ⊎ StopsAtEnd sample end ws at
Stops sample end ws e = StopsInside sample ws e

-- ---- of tokens

-- from the first token to the end of the last they have at most 16,384 bytes
abbrev pub AreShort : List Word → Type 0
AreShort [] = Unit {0}
AreShort (w ∷ ws) = last_end w.at (w ∷ ws) ≤ w.at + 16384

-- they have more, and this byte is the one behind the first 16,384
abbrev pub AreLong : List Word → (at : ℕ) → Type 0
AreLong [] at = ⊥
AreLong (w ∷ ws) at = (at ≡ w.at + 16384) × (at < last_end w.at (w ∷ ws))

-- The answer to tokens: too long where they are, and else a fault, if there is one, where no script goes on.
abbrev pub TokensFault : Bool → (end : ℕ) → List Word → Result Script ScriptFault → Type 0
TokensFault sample end ws (Ok s) = AreShort ws
TokensFault sample end ws (Err OutOfMemory) = Unit {0}
TokensFault sample end ws (Err (TooLong at)) = AreLong ws at
TokensFault sample end ws (Err e) = AreShort ws × Stops sample end ws e

-- ---- of a text

-- Something can be missing at the end of a text only if its tokens go on up to there.
abbrev pub StopsInText : Bool → (end : ℕ) → List Word → Option LexFault → ScriptFault → Type 0
StopsInText sample end ws None e = Stops sample end ws e
StopsInText sample end ws (Some fault) e = StopsInside sample ws e

-- The answer to a text: too long where it is; else a fault of a token that it has, or a fault where no script goes on.
abbrev pub TextFault : Bool → List ℕ → Result Script ScriptFault → Type 0
TextFault sample source (Ok s) = (length source ≤ 16384) × ((lexed source).fault ≡ None)
TextFault sample source (Err OutOfMemory) = Unit {0}
TextFault sample source (Err (TooLong at)) = (at ≡ 16384) × (16384 < length source)
TextFault sample source (Err (Lex fault)) = (length source ≤ 16384) × ((lexed source).fault ≡ Some fault)
TextFault sample source (Err e) = (length source ≤ 16384) × StopsInText sample (length source) (lexed source).words (lexed source).fault e
