-- What the two calls promise, from what they read.
use Rattle.std.proofs.Common.{◌≡◌, ◌∙◌, ℕ, ◌≤◌, Bool, true, false, List, length, refl, sym, ap, arith, Option, Some, None, Result, Ok, Err, if◌then◌else◌, nat_lt}
use Rattle.std.proofs.lemmas.Bool.Decides.{nat_tests}
use Rattle.pg_base.specs.declared.token.LexFault.{LexFault}
use Rattle.pg_base.specs.Tokens.{Word, lexed}
use Rattle.pg_script.specs.declared.fault.ScriptFault.{ScriptFault}
use Rattle.pg_script.specs.declared.fault.ScriptFault.TheVariants.{TooLong, Lex, Expected, TooMany, Deep, OutOfMemory}
use Rattle.pg_script.specs.declared.item.Script.{Script}
use Rattle.pg_script.specs.Data.{Entry}
use Rattle.pg_script.specs.View.{Reads}
use Rattle.pg_script.specs.Grammar.{IsScript, ReadsScript, ReadsAll}
use Rattle.pg_script.specs.Lines.{Read, and_then, unless_fault}
use Rattle.pg_script.specs.Scripts.{script, entries_of_tokens, long_fault, items_of, lex_place, stands_before, broken_script, lexed_script, script_of}
use Rattle.pg_script.proofs.Laid.{script_read}
use Rattle.pg_script.proofs.Found.{clash, inj, script_laid}

only_memory : (e : ScriptFault) → ((e ≡ OutOfMemory → ⊥) → ⊥) → e ≡ OutOfMemory
only_memory (TooLong at) h = absurd (h (λ x. cc))
only_memory (Lex fault) h = absurd (h (λ x. cc))
only_memory (Expected at what) h = absurd (h (λ x. cc))
only_memory (TooMany at) h = absurd (h (λ x. cc))
only_memory (Deep at) h = absurd (h (λ x. cc))
only_memory OutOfMemory h = refl

-- from what is read to what is laid out
laid-from : (sample : Bool) (end : ℕ) (ws : List Word) (read : Read (List Entry)) (result : Result Script ScriptFault) → ((es : List Entry) → read ≡ Ok es → IsScript sample end ws es)
    → Reads script read result → ReadsScript sample end ws result
laid-from sample end ws read (Ok s) f h = f (script s) h
laid-from sample end ws read (Err e) f h = tt

-- and back
all-from : (sample : Bool) (end : ℕ) (ws : List Word) (read : Read (List Entry)) (result : Result Script ScriptFault) → ((es : List Entry) → IsScript sample end ws es → read ≡ Ok es)
    → Reads script read result → ReadsAll sample end ws result
all-from sample end ws read (Ok s) f h = λ es g. inj (script s) es (sym h ∙ f es g)
all-from sample end ws read (Err e) f h = λ es g. only_memory e (λ n. clash e es (sym (h n) ∙ f es g))

-- ---- of tokens

short-items : (ws : List Word) (end : ℕ) (sample : Bool) → long_fault ws ≡ None → items_of ws end sample ≡ entries_of_tokens ws end sample
short-items ws end sample e = ap (λ o. and_then (unless_fault o ws) (λ short. entries_of_tokens short end sample)) e

items-ok : (o : Option ScriptFault) (ws : List Word) (end : ℕ) (sample : Bool) (es : List Entry) → and_then (unless_fault o ws) (λ short. entries_of_tokens short end sample) ≡ Ok es → entries_of_tokens ws end sample ≡ Ok es
items-ok None ws end sample es h = h
items-ok (Some e) ws end sample es h = absurd (clash e es h)

pub items_laid : (sample : Bool) (end : ℕ) (ws : List Word) (result : Result Script ScriptFault) → Reads script (items_of ws end sample) result → ReadsScript sample end ws result
items_laid sample end ws result h = laid-from sample end ws (items_of ws end sample) result (λ es g. script_laid sample end ws es (items-ok (long_fault ws) ws end sample es g)) h

pub items_all : (sample : Bool) (end : ℕ) (ws : List Word) (result : Result Script ScriptFault) → Reads script (items_of ws end sample) result → long_fault ws ≡ None → ReadsAll sample end ws result
items_all sample end ws result h short = all-from sample end ws (items_of ws end sample) result (λ es g. short-items ws end sample short ∙ script_read g) h

-- ---- of a text

broken-no : (fault : LexFault) (r : Read (List Entry)) (es : List Entry) → broken_script fault r ≡ Ok es → ⊥
broken-no fault (Ok xs) es h = clash (Lex fault) es h
broken-no fault (Err e) es h =
    elim (stands_before e (lex_place fault)) as (λ b. (if b then Err e else Err (Lex fault)) ≡ Ok es → ⊥) [
      | true ↦ λ g. clash e es g
      | false ↦ λ g. clash (Lex fault) es g
    ] h

lexed-ok : (ws : List Word) (o : Option LexFault) (end : ℕ) (sample : Bool) (es : List Entry) → lexed_script ws o end sample ≡ Ok es → entries_of_tokens ws end sample ≡ Ok es
lexed-ok ws None end sample es h = h
lexed-ok ws (Some fault) end sample es h = absurd (broken-no fault (entries_of_tokens ws (lex_place fault) sample) es h)

text-ok : (long : Bool) (ws : List Word) (o : Option LexFault) (end : ℕ) (sample : Bool) (es : List Entry) → (if long then Err (TooLong 16384) else lexed_script ws o end sample) ≡ Ok es → entries_of_tokens ws end sample ≡ Ok es
text-ok true ws o end sample es h = absurd (clash (TooLong 16384) es h)
text-ok false ws o end sample es h = lexed-ok ws o end sample es h

pub script_laid_out : (sample : Bool) (source : List ℕ) (result : Result Script ScriptFault) → Reads script (script_of source sample) result → ReadsScript sample (length source) (lexed source).words result
script_laid_out sample source result h =
    laid-from sample (length source) (lexed source).words (script_of source sample) result
    (λ es g. script_laid sample (length source) (lexed source).words es (text-ok (nat_lt 16384 (length source)) (lexed source).words (lexed source).fault (length source) sample es g)) h

not_lt : (n : ℕ) → n ≤ 16384 → nat_lt 16384 n ≡ false
not_lt n le = grind (arith, nat_tests, le)

short-text : (source : List ℕ) (sample : Bool) → length source ≤ 16384 → (lexed source).fault ≡ None → script_of source sample ≡ entries_of_tokens (lexed source).words (length source) sample
short-text source sample le none =
    ap (λ b. if b then Err (TooLong 16384) else lexed_script (lexed source).words (lexed source).fault (length source) sample) (not_lt (length source) le)
    ∙ ap (λ o. lexed_script (lexed source).words o (length source) sample) none

pub script_all : (sample : Bool) (source : List ℕ) (result : Result Script ScriptFault) → Reads script (script_of source sample) result → length source ≤ 16384 → (lexed source).fault ≡ None
    → ReadsAll sample (length source) (lexed source).words result
script_all sample source result h le none =
    all-from sample (length source) (lexed source).words (script_of source sample) result (λ es g. short-text source sample le none ∙ script_read g) h
