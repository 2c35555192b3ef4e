-- A text is laid out in one way, which is the lexer's definition.
use Rattle.std.proofs.Common.{◌≡◌, ℕ, ◌+◌, List, [], ◌∷◌, ◌++◌, length, drop, reverse, Option, Some, option_map, unwrap_or, codes, sym, ◌∙◌, ap, refl, arith, append_assoc, append-nil, length-append}
use Rattle.std.specs.Str.{encode_utf8_all}
use Rattle.pg_base.specs.declared.token.TokenKind.TheVariants.{Text}
use Rattle.pg_base.specs.declared.token.LexFault.{LexFault}
use Rattle.pg_base.specs.declared.token.LexFault.TheVariants.{BadByte, OpenString, OpenComment, LongName}
use Rattle.pg_base.specs.declared.token.Piece.TheVariants.{Gap, Lexeme, Bad}
use Rattle.pg_base.specs.Characters.{line_length}
use Rattle.pg_base.specs.Tokens.{Position, Lexed, Word, piece_at, lexed_from, lexed, broken}
use Rattle.pg_base.specs.Layout.{written, IsFault, has_line_feed, LaidOut, ends, breaks, gap, token}
use Rattle.pg_base.specs.Spans.{IsMadeOnlyOf}
use Rattle.pg_base.proofs.Pieces.{begins-split}
use Rattle.pg_base.proofs.Lexing.{lexed_from-gap, lexed_from-token, lexed_from-bad, lexed_from-long}
use Rattle.pg_base.proofs.Layouts.{place_behind, past-place, laid_out}
use Rattle.pg_base.proofs.Fronts.{piece-gap, token-front, written-text, bad-byte, long-piece}

-- passing over a front
skip-front : (before since front rest : List ℕ) → lexed_from (length front) (place_behind before since) (front ++ rest) ≡ lexed_from 0 (place_behind (before ++ front) (since ++ front)) rest
skip-front before since [] rest = ap (λ x. lexed_from 0 (place_behind x since) rest) (sym (append-nil before)) ∙ ap (λ x. lexed_from 0 (place_behind (before ++ []) x) rest) (sym (append-nil since))
skip-front before since (c ∷ front) rest =
    ap (λ p. lexed_from (length front) p (front ++ rest)) (past-place c before since)
    ∙ skip-front (before ++ c ∷ []) (since ++ c ∷ []) front rest
    ∙ ap (λ x. lexed_from 0 (place_behind x ((since ++ c ∷ []) ++ front)) rest) (append_assoc before (c ∷ []) front)
    ∙ ap (λ x. lexed_from 0 (place_behind (before ++ c ∷ front) x) rest) (append_assoc since (c ∷ []) front)

-- a fault
lexed-fault : (p : Position) (cs : List ℕ) (fault : LexFault) → IsFault fault p.place cs → lexed_from 0 p cs ≡ record { words = []; fault = Some fault }
lexed-fault p [] (BadByte at) h = absurd h
lexed-fault p (c ∷ cs) (BadByte at) h = ap (λ n. lexed_from 0 p (c ∷ cs)) h.0 ∙ lexed_from-bad p (c ∷ cs) (BadByte p.place) (bad-byte p.place c cs h.1) ∙ ap (λ n. broken (BadByte n)) (sym h.0)
lexed-fault p cs (OpenString at) h =
    let split : cs ≡ codes "\"" ++ drop 1 cs = begins-split (codes "\"") cs h.1 in
    lexed_from-bad p cs (OpenString p.place) (ap (piece_at p.place) split ∙ ap (λ o. unwrap_or (option_map (λ n. Lexeme Text (n + 1)) o) (Bad (OpenString p.place))) h.2) ∙ ap (λ n. broken (OpenString n)) (sym h.0)
lexed-fault p cs (OpenComment at) h =
    let split : cs ≡ codes "/-" ++ drop 2 cs = begins-split (codes "/-") cs h.1 in
    lexed_from-bad p cs (OpenComment p.place) (ap (piece_at p.place) split ∙ ap (λ o. unwrap_or (option_map (λ n. Gap (n + 2)) o) (Bad (OpenComment p.place))) h.2) ∙ ap (λ n. broken (OpenComment n)) (sym h.0)
lexed-fault p cs (LongName at) h =
    let l = long-piece p.place cs h.1 in
    lexed_from-long p cs l.kind l.count l.text l.piece l.some l.within l.text_is l.long ∙ ap (λ n. broken (LongName n)) (sym h.0)

same_word : (v w : Word) → v.kind ≡ w.kind → v.text ≡ w.text → v.at ≡ w.at → v.column ≡ w.column → v.first ≡ w.first → v ≡ w
same_word v w a b c d e = λ i. record { kind = a i; text = b i; at = c i; column = d i; first = e i }

lexed-laid : {before since cs : List ℕ} {words : List Word} {fault : Option LexFault} → LaidOut before since cs words fault
    → lexed_from 0 (place_behind before since) cs ≡ record { words = words; fault = fault }
lexed-laid (ends before since) = refl
lexed-laid (breaks before since cs fault is) = lexed-fault (place_behind before since) cs fault is
lexed-laid (gap before since front rest words fault is laid) =
    let at : ℕ = length (encode_utf8_all before) in
    let front_is = piece-gap at is in
    sym (lexed_from-gap (place_behind before since) (front ++ rest) (length front) front_is.0 front_is.1 (omega (arith, length-append front rest)))
    ∙ skip-front before since front rest ∙ lexed-laid laid
lexed-laid (token before since text rest w words fault is laid) =
    let at : ℕ = length (encode_utf8_all before) in
    let f = token-front at w.kind text rest is.token in
    let spelled : List ℕ = written w.kind text in
    let after : record { words = words; fault = fault } ≡ lexed_from (length spelled) (place_behind before []) (spelled ++ rest) =
    sym (skip-front before [] spelled rest ∙ lexed-laid laid) in
    let found = lexed_from-token (place_behind before since) (spelled ++ rest) w.kind (length spelled) (encode_utf8_all text) (record { words = words; fault = fault })
    f.piece f.some (omega (arith, length-append spelled rest)) (sym (written-text w.kind text rest)) f.short after in
    found ∙ ap (λ v. record { words = v ∷ words; fault = fault })
    (same_word (record { kind = w.kind; text = encode_utf8_all text; at = at; column = line_length (reverse before); first = has_line_feed since }) w refl (sym is.text_is) (sym is.at_is) (sym is.column_is) (sym is.first_is))

-- a text is made of the definition's tokens and fault, and of no others
pub made_only_of : (source : List ℕ) → IsMadeOnlyOf source (lexed source).words (lexed source).fault
made_only_of source = record {
  made = laid_out source;
  only = λ others other made.
      let same : lexed source ≡ record { words = others; fault = other } = lexed-laid made in
      (ap (λ (x : Lexed). x.words) (sym same), ap (λ (x : Lexed). x.fault) (sym same));
}
