-- What is read of a text is written: its tokens have texts of their kinds, and there are no more of them than bytes.
use Rattle.std.proofs.Common.{◌≡◌, ◌∙◌, ℕ, ◌<◌, ◌≤◌, ◌^◌, Bool, true, false, List, [], ◌∷◌, length, Option, Some, None, Ok, Err, if◌then◌else◌, nat_lt, refl, sym, ap, subst, arith, inl, inr, length-append}
use Rattle.std.proofs.lemmas.Bool.Decides.{nat_tests}
use Rattle.std.specs.Str.{chars}
use Rattle.pg_base.specs.declared.token.LexFault.{LexFault}
use Rattle.pg_base.specs.declared.token.Sign.{Sign}
use Rattle.pg_base.specs.declared.token.TokenKind.{TokenKind}
use Rattle.pg_base.specs.declared.token.TokenKind.TheVariants.{Name, Number, Text, Sign as SignToken}
use Rattle.pg_base.specs.Layout.{IsToken, IsShortSign, written, LaidOut, ends, breaks, gap, token}
use Rattle.pg_base.specs.Tokens.{Word, lexed}
use Rattle.pg_script.specs.declared.fault.ScriptFault.TheVariants.{TooLong, Lex}
use Rattle.pg_script.specs.Data.{Entry}
use Rattle.pg_script.specs.Lines.{Read}
use Rattle.pg_script.specs.Scripts.{entries_of_tokens, lex_place, stands_before, broken_script, lexed_script}
use Rattle.pg_script.proofs.Found.{clash}
use Rattle.pg_runs.specs.Written.{AreRead, ScriptLaw}
use Rattle.pg_runs.proofs.Texts.{Texts, not-empty, not-none}
use Rattle.pg_runs.proofs.Read.{read}
use Rattle.pg_runs.proofs.Spelled.{spelled, chars-few}

-- ---- a token before the rest is one alone

short-alone : (s : Sign) (cs rest : List ℕ) → IsShortSign s cs rest → IsShortSign s cs []
short-alone s [] rest h = h
short-alone s (c ∷ []) rest h = (h.0, tt)
short-alone s (c ∷ d ∷ []) rest h = h
short-alone s (c ∷ d ∷ e ∷ cs) rest h = h

alone : (k : TokenKind) (cs rest : List ℕ) → IsToken k cs rest → IsToken k cs []
alone Name cs rest h = (h.0, refl, h.2, h.3)
alone Number cs rest h = (h.0, refl, h.2)
alone Text cs rest h = h
alone (SignToken s) cs rest (inl h) = inl (short-alone s cs rest h)
alone (SignToken s) cs rest (inr h) = inr (h.0, refl, h.2)

-- ---- the tokens of a text

laid-few : {before since cs : List ℕ} {ws : List Word} {fault : Option LexFault} → LaidOut before since cs ws fault → Texts ws × (length ws ≤ length cs)
laid-few (ends before since) = (tt, omega arith)
laid-few (breaks before since cs fault is) = (tt, omega arith)
laid-few (gap before since front rest ws fault is laid) = let r = laid-few laid in (r.0, omega (arith, r.1, length-append front rest))
laid-few (token before since text rest w ws fault is laid) =
    let r = laid-few laid in
    let own : IsToken w.kind text [] = alone w.kind text rest is.token in (
      (subst (λ x. IsToken w.kind x []) (sym (ap chars is.text_is ∙ spelled text)) own, r.0),
      omega (arith, r.1, length-append (written w.kind text) rest, not-none (written w.kind text) (not-empty w.kind text own)),
    )

-- ---- what is read

-- no fault was found in the tokens
lexed-read : (ws : List Word) (fault : Option LexFault) (end : ℕ) (sample : Bool) (es : List Entry) → Texts ws → length ws < 2 ^ 32 → lexed_script ws fault end sample ≡ Ok es → AreRead es
lexed-read ws None end sample es t few h = read ws end sample es t few h
lexed-read ws (Some fault) end sample es t few h = absurd (broken (entries_of_tokens ws (lex_place fault) sample) h)
  where
    broken : (r : Read (List Entry)) → broken_script fault r ≡ Ok es → ⊥
    broken (Ok xs) g = clash (Lex fault) es g
    broken (Err e) g = by (stands_before e (lex_place fault)) g
      where
        by : (b : Bool) → (if b then Err e else Err (Lex fault)) ≡ Ok es → ⊥
        by true g = clash e es g
        by false g = clash (Lex fault) es g

text-read : (source : List ℕ) (ws : List Word) (fault : Option LexFault) (long : Bool) (sample : Bool) (es : List Entry) → nat_lt 16384 (length source) ≡ long → Texts ws → length ws ≤ length source
    → (if long then Err (TooLong 16384) else lexed_script ws fault (length source) sample) ≡ Ok es → AreRead es
text-read source ws fault true sample es e t few h = absurd (clash (TooLong 16384) es h)
text-read source ws fault false sample es e t few h =
    let short : length source ≤ 16384 = grind (arith, nat_tests) in
    lexed-read ws fault (length source) sample es t (omega (arith, few, short)) h

pub script_read : ScriptLaw
script_read source sample es laid h =
    let r = laid-few laid in
    text-read source (lexed source).words (lexed source).fault (nat_lt 16384 (length source)) sample es refl r.0 (omega (arith, r.1, chars-few source)) h
