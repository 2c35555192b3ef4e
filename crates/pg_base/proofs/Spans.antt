-- The tokens of a text that is laid out stand in it, in order.
use Rattle.std.proofs.Common.{◌≡◌, ℕ, ◌≤◌, Bool, true, false, ◌&&◌, List, [], ◌∷◌, ◌++◌, length, take, drop, Option, inl, inr, sym, ◌∙◌, ap, refl, subst, arith, append_assoc, length-append}
use Rattle.std.proofs.lemmas.List.{take_at, drop_at}
use Rattle.std.proofs.lemmas.List.Elements.{All-from_recursion}
use Rattle.std.specs.List.{AllByRecursion}
use Rattle.std.proofs.lemmas.Str.{encodes-append, chars-encodes, scalars-chars}
use Rattle.std.specs.Str.{chars, IsUtf8, encode_utf8_all, all_scalars}
use lib.Utf8.{scalar}
use Rattle.pg_base.specs.declared.token.Sign.{Sign}
use Rattle.pg_base.specs.declared.token.LexFault.{LexFault}
use Rattle.pg_base.specs.declared.token.TokenKind.{TokenKind}
use Rattle.pg_base.specs.declared.token.TokenKind.TheVariants.{Name, Number, Text, Sign as SignToken}
use Rattle.pg_base.specs.Characters.{character}
use Rattle.pg_base.specs.Tokens.{Word, lexed}
use Rattle.pg_base.specs.Layout.{IsToken, IsShortSign, written, LaidOut, ends, breaks, gap, token}
use Rattle.pg_base.specs.Spans.{IsTokenText, token_end, AreInOrder, StandsIn, AreTokensOf}
use Rattle.pg_base.proofs.Characters.{chars-spell}
use Rattle.pg_base.proofs.Layouts.{laid_out}

and_left : (a b : Bool) → (a && b) ≡ true → a ≡ true
and_left true b h = refl
and_left false b h = h

and_right : (a b : Bool) → (a && b) ≡ true → b ≡ true
and_right true b h = h
and_right false b h = cc

scalars-left : (cs ds : List ℕ) → all_scalars (cs ++ ds) ≡ true → all_scalars cs ≡ true
scalars-left [] ds h = refl
scalars-left (c ∷ cs) ds h = rw (and_left (scalar c) _ h) (scalars-left cs ds (and_right (scalar c) _ h))

scalars-right : (cs ds : List ℕ) → all_scalars (cs ++ ds) ≡ true → all_scalars ds ≡ true
scalars-right [] ds h = h
scalars-right (c ∷ cs) ds h = scalars-right cs ds (and_right (scalar c) _ h)

-- ---- a token's text

-- as characters, and as bytes
written-bytes : (kind : TokenKind) (text : List ℕ) → written kind (encode_utf8_all text) ≡ encode_utf8_all (written kind text)
unfolding lib.Utf8.encode
written-bytes Name text = refl
written-bytes Number text = refl
written-bytes Text text = ap (λ x. character "\"" ∷ x) (sym (encodes-append text (character "\"" ∷ [])))
written-bytes (SignToken sign) text = refl

written-scalars : (kind : TokenKind) (text : List ℕ) → all_scalars (written kind text) ≡ true → all_scalars text ≡ true
written-scalars Name text h = h
written-scalars Number text h = h
written-scalars Text text h = scalars-left text (character "\"" ∷ []) h
written-scalars (SignToken sign) text h = h

short-alone : (sign : Sign) (cs rest : List ℕ) → IsShortSign sign cs rest → IsShortSign sign cs []
short-alone sign [] rest h = h
short-alone sign (c ∷ []) rest h = (h.0, tt)
short-alone sign (c ∷ d ∷ []) rest h = h
short-alone sign (c ∷ d ∷ e ∷ cs) rest h = h

-- what is a token before the rest is one alone
token-alone : (kind : TokenKind) (cs rest : List ℕ) → IsToken kind cs rest → IsToken kind cs []
token-alone Name cs rest h = (h.0, refl, h.2, h.3)
token-alone Number cs rest h = (h.0, refl, h.2)
token-alone Text cs rest h = h
token-alone (SignToken sign) cs rest (inl h) = inl (short-alone sign cs rest h)
token-alone (SignToken sign) cs rest (inr h) = inr (h.0, refl, h.2)

-- ---- spans

-- the clauses of `AreTokensOf` behind a place, by recursion
record Spans (source : List ℕ) (at : ℕ) (words : List Word) : Type 0 where
  in_order : AreInOrder at (length source) words
  texts : AllByRecursion (λ (w : Word). IsTokenText w.kind w.text) words
  stand : AllByRecursion (StandsIn source) words

earlier : (at later end : ℕ) (words : List Word) → at ≤ later → AreInOrder later end words → AreInOrder at end words
earlier at later end [] le h = omega (arith, le, h)
earlier at later end (w ∷ words) le h = (omega (arith, le, h.0), h.1)

-- what is read goes to what was before
moved : (source before front rest : List ℕ) → source ≡ encode_utf8_all before ++ encode_utf8_all (front ++ rest) → source ≡ encode_utf8_all (before ++ front) ++ encode_utf8_all rest
moved source before front rest whole =
    whole ∙ ap (λ x. encode_utf8_all before ++ x) (encodes-append front rest)
    ∙ sym (append_assoc (encode_utf8_all before) (encode_utf8_all front) (encode_utf8_all rest))
    ∙ ap (λ x. x ++ encode_utf8_all rest) (sym (encodes-append before front))

longer : (before front : List ℕ) → length (encode_utf8_all before) ≤ length (encode_utf8_all (before ++ front))
longer before front = omega (arith, ap length (encodes-append before front), length-append (encode_utf8_all before) (encode_utf8_all front))

stands : (source before text rest : List ℕ) (at : ℕ) → source ≡ before ++ (text ++ rest) → at ≡ length before → take (length text) (drop at source) ≡ text
stands source before text rest at whole is =
    ap (λ x. take (length text) (drop at x)) whole ∙ ap (take (length text)) (drop_at before (text ++ rest) at (sym is)) ∙ take_at text rest (length text) refl

spans : (source : List ℕ) {before since cs : List ℕ} {words : List Word} {fault : Option LexFault} → LaidOut before since cs words fault
    → source ≡ encode_utf8_all before ++ encode_utf8_all cs → all_scalars cs ≡ true → Spans source (length (encode_utf8_all before)) words
spans source (ends before since) whole scalars =
    record { in_order = omega (arith, ap length whole, length-append (encode_utf8_all before) []); texts = tt; stand = tt }
spans source (breaks before since cs fault is) whole scalars =
    record { in_order = omega (arith, ap length whole, length-append (encode_utf8_all before) (encode_utf8_all cs)); texts = tt; stand = tt }
spans source (gap before since front rest words fault is laid) whole scalars =
    let s = spans source laid (moved source before front rest whole) (scalars-right front rest scalars) in
    record { in_order = earlier _ _ _ words (longer before front) s.in_order; texts = s.texts; stand = s.stand }
spans source (token before since text rest w words fault is laid) whole scalars =
    let s = spans source laid (moved source before (written w.kind text) rest whole) (scalars-right (written w.kind text) rest scalars) in
    let same : encode_utf8_all (written w.kind text) ≡ written w.kind w.text = sym (written-bytes w.kind text) ∙ ap (written w.kind) (sym is.text_is) in
    let spelled : chars w.text ≡ text = ap chars is.text_is ∙ chars-encodes text (written-scalars w.kind text (scalars-left (written w.kind text) rest scalars)) in
    let bytes : source ≡ encode_utf8_all before ++ (written w.kind w.text ++ encode_utf8_all rest) =
    whole ∙ ap (λ x. encode_utf8_all before ++ x) (encodes-append (written w.kind text) rest ∙ ap (λ x. x ++ encode_utf8_all rest) same) in
    let end : length (encode_utf8_all (before ++ written w.kind text)) ≡ token_end w =
    omega (arith, ap length (encodes-append before (written w.kind text)), length-append (encode_utf8_all before) (encode_utf8_all (written w.kind text)), ap length same, is.at_is) in
    record {
      in_order = (omega (arith, is.at_is), subst (λ at. AreInOrder at (length source) words) end s.in_order);
      texts = (subst (λ x. IsToken w.kind x []) (sym spelled) (token-alone w.kind text rest is.token), s.texts);
      stand = (stands source (encode_utf8_all before) (written w.kind w.text) (encode_utf8_all rest) w.at bytes is.at_is, s.stand);
    }

pub are_tokens_of : (source : List ℕ) → IsUtf8 source → AreTokensOf source (lexed source).words
are_tokens_of source u =
    let s = spans source (laid_out source) (sym (chars-spell source u)) (scalars-chars source u) in
    record { tokens = record { in_order = s.in_order; texts = All-from_recursion _ _ s.texts }; stand = All-from_recursion _ _ s.stand }
