-- A gap, a token or a fault of the layout is what stands at the front of the characters.
use Rattle.std.proofs.Common.{◌≡◌, ℕ, suc, ◌+◌, ◌-◌, ◌<◌, ◌≤◌, Bool, true, false, ◌&&◌, not, nat_le, nat_lt, List, [], ◌∷◌, ◌++◌, length, take, Option, Some, None, option_map, unwrap_or, codes, ◌==◌, ◌⊎◌, inl, inr, sym, ◌∙◌, ap, refl, subst, arith, append_assoc, length-append}
use Rattle.std.proofs.lemmas.Bool.Decides.{nat_tests}
use Rattle.std.proofs.lemmas.List.{take_at}
use Rattle.std.proofs.lemmas.Slice.Eq.{bytes_eq-Decides}
use Rattle.std.specs.Char.{is_ascii_digit}
use Rattle.std.specs.List.{list_all}
use Rattle.std.specs.Str.{encode_utf8_all, bytes_eq}
use Rattle.pg_base.specs.declared.token.Sign.{Sign}
use Rattle.pg_base.specs.declared.token.TokenKind.{TokenKind}
use Rattle.pg_base.specs.declared.token.TokenKind.TheVariants.{Name, Number, Text, Sign as SignToken}
use Rattle.pg_base.specs.declared.token.LexFault.TheVariants.{BadByte, OpenString, OpenComment}
use Rattle.pg_base.specs.declared.token.Piece.TheVariants.{Gap, Lexeme, Bad}
use Rattle.pg_base.specs.Characters.{character, is_letter, is_blank, begins_with, begins_with_prefix_name, name_length, number_length, line_length}
use Rattle.pg_base.specs.Signs.{sign_in, one_character_signs, two_character_signs, sign_names, sign_of_one, sign_of_two, sign_of_name}
use Rattle.pg_base.specs.Tokens.{piece_at, sign_piece, name_kind, name_piece, token_text, is_long}
use Rattle.pg_base.specs.Layout.{IsGap, blank, prefix_name, line_comment, block_comment, IsName, IsNumber, IsQuoted, IsAlone, IsShortSign, IsToken, written, BeginsNothing, BeginsLong}
use Rattle.pg_base.proofs.Pieces.{and_left, and_right}
use Rattle.pg_base.proofs.Extends.{line-extends, number-extends, name-extends, text-extends, comment-extends, prefix-extends}

-- ---- characters that differ

-- one character passes a test, the other doesn't
differs : (f : ℕ → Bool) (k c : ℕ) → f k ≡ false → f c ≡ true → (c == k) ≡ false
differs f k c off on = by_test _ refl
  where
    by_test : (b : Bool) → (c == k) ≡ b → (c == k) ≡ false
    by_test false is = is
    by_test true is =
        let same : c ≡ k = grind (arith, nat_tests, is) in
        let fails : f c ≡ false = ap f same ∙ off in
        cc

letter-no_blank : (c : ℕ) → is_letter c ≡ true → is_blank c ≡ false
letter-no_blank c on = rw (differs is_letter 32 c refl on, differs is_letter 9 c refl on, differs is_letter 13 c refl on, differs is_letter 10 c refl on) refl

digit-no_blank : (c : ℕ) → is_ascii_digit c ≡ true → is_blank c ≡ false
digit-no_blank c on = rw (differs is_ascii_digit 32 c refl on, differs is_ascii_digit 9 c refl on, differs is_ascii_digit 13 c refl on, differs is_ascii_digit 10 c refl on) refl

digit-no_letter : (c : ℕ) → is_ascii_digit c ≡ true → is_letter c ≡ false
digit-no_letter c on =
    let high : nat_le c 57 ≡ true = and_right (nat_le 48 c) _ on in
    let below : c ≤ 57 = grind (arith, nat_tests, high) in
    let upper : nat_le 65 c ≡ false = grind (arith, nat_tests, below) in
    let lower : nat_le 97 c ≡ false = grind (arith, nat_tests, below) in
    let line : (c == 95) ≡ false = grind (arith, nat_tests, below) in
    let greek : nat_le 0x3b1 c ≡ false = grind (arith, nat_tests, below) in
    rw (upper, lower, line, greek) refl

-- no row of a table whose spellings all fail a test is found by a spelling that passes it
no-row : {X : Type 0} (find test : X → Bool) (rows : List (X × Sign)) → ((x : X) → find x ≡ true → test x ≡ true) → list_all (λ row. not (test row.0)) rows ≡ true → sign_in find rows ≡ None
no-row find test [] finds none = refl
no-row find test (row ∷ rows) finds none = by_find (no-row find test rows finds (and_right (not (test row.0)) _ none)) _ refl
  where
    by_find : sign_in find rows ≡ None → (b : Bool) → find row.0 ≡ b → sign_in find (row ∷ rows) ≡ None
    by_find later true is =
        let clash : not true ≡ true = ap not (sym (finds row.0 is)) ∙ and_left (not (test row.0)) _ none in
        cc
    by_find later false is = rw is later

-- a sign of one character passes no test that the spellings in the table fail
one-fails : (c : ℕ) (sign : Sign) (test : ℕ → Bool) → sign_of_one c ≡ Some sign → list_all (λ row. not (test row.0)) one_character_signs ≡ true → test c ≡ false
one-fails c sign test is none = by_test _ refl
  where
    by_test : (b : Bool) → test c ≡ b → test c ≡ false
    by_test false fails = fails
    by_test true passes =
        let missing : sign_of_one c ≡ None = no-row (λ spelling. c == spelling) test one_character_signs (λ x h. let same : c ≡ x = grind (arith, nat_tests, h) in ap test (sym same) ∙ passes) none in
        cc

two-fails : (c d : ℕ) (sign : Sign) (test : ℕ × ℕ → Bool) → sign_of_two c d ≡ Some sign → list_all (λ row. not (test row.0)) two_character_signs ≡ true → test (c, d) ≡ false
two-fails c d sign test is none = by_test _ refl
  where
    same_pair : (x : ℕ × ℕ) → ((c == x.0) && (d == x.1)) ≡ true → (c, d) ≡ x
    same_pair (a, b) h =
        let left : (c == a) ≡ true = and_left (c == a) _ h in
        let right : (d == b) ≡ true = and_right (c == a) _ h in
        let first : c ≡ a = grind (arith, nat_tests, left) in
        let second : d ≡ b = grind (arith, nat_tests, right) in
        cc

    by_test : (b : Bool) → test (c, d) ≡ b → test (c, d) ≡ false
    by_test false fails = fails
    by_test true passes =
        let missing : sign_of_two c d ≡ None = no-row (λ spelling. (c == spelling.0) && (d == spelling.1)) test two_character_signs (λ x h. ap test (sym (same_pair x h)) ∙ passes) none in
        cc

-- a text of more than 48 bytes is no sign's name
long-no_sign : (text : List ℕ) → 48 < length text → sign_of_name text ≡ None
long-no_sign text long = no-row (λ spelling. bytes_eq text spelling) (λ x. nat_lt 48 (length x)) sign_names
    (λ x h. let same : text ≡ x = (bytes_eq-Decides text x).0 h in let longer : 48 < length x = subst (λ y. 48 < length y) same long in grind (arith, nat_tests, longer)) refl

-- ---- gaps

pub piece-gap : (place : ℕ) {front rest : List ℕ} → IsGap front rest → (piece_at place (front ++ rest) ≡ Gap (length front)) × (0 < length front)
piece-gap place (blank c rest h) = (rw h refl, omega arith)
piece-gap place (prefix_name rest h) = (rw h refl, omega arith)
piece-gap place (line_comment body rest all stops) =
    let count : suc (suc (line_length (body ++ rest))) ≡ suc (suc (length body)) = ap (λ n. suc (suc n)) (line-extends body rest all stops) in
    (ap Gap count, omega arith)
piece-gap place (block_comment body rest is) =
    let count : length body + 2 ≡ suc (suc (length body)) = omega arith in
    (ap (λ o. unwrap_or (option_map (λ n. Gap (n + 2)) o) (Bad (OpenComment place))) (comment-extends 1 (length body) body rest is) ∙ ap Gap count, omega arith)

-- ---- names and numbers

name-front : (place c : ℕ) (cs rest : List ℕ) (o : Option Sign) → IsName (c ∷ cs) → name_length rest ≡ 0 → sign_of_name (encode_utf8_all (c ∷ cs)) ≡ o
    → piece_at place (c ∷ (cs ++ rest)) ≡ Lexeme (unwrap_or (option_map SignToken o) Name) (suc (length cs))
name-front place c cs rest o name stops is =
    let letter : is_letter c ≡ true = name.0 in
    let no_prefix : begins_with_prefix_name (c ∷ (cs ++ rest)) ≡ false = prefix-extends (c ∷ cs) rest name stops in
    let piece : piece_at place (c ∷ (cs ++ rest)) ≡ name_piece (c ∷ (cs ++ rest)) (name_length (cs ++ rest) + 1) =
    rw (letter-no_blank c letter, no_prefix, differs is_letter 45 c refl letter, differs is_letter 47 c refl letter, letter) refl in
    let one : name_length (c ∷ (cs ++ rest)) ≡ suc (name_length (cs ++ rest)) = rw letter refl in
    let count : name_length (cs ++ rest) + 1 ≡ suc (length cs) = omega (arith, one, name-extends (c ∷ cs) rest name.1 stops) in
    piece ∙ ap (name_piece (c ∷ (cs ++ rest))) count
    ∙ ap (λ text. Lexeme (name_kind (encode_utf8_all text)) (suc (length cs))) (take_at (c ∷ cs) rest (suc (length cs)) refl)
    ∙ ap (λ o. Lexeme (unwrap_or (option_map SignToken o) Name) (suc (length cs))) is

number-front : (place c : ℕ) (cs rest : List ℕ) → number_length (c ∷ cs) ≡ suc (length cs) → number_length rest ≡ 0 → piece_at place (c ∷ (cs ++ rest)) ≡ Lexeme Number (suc (length cs))
number-front place c cs rest all stops = by_digit _ refl
  where
    by_digit : (b : Bool) → is_ascii_digit c ≡ b → piece_at place (c ∷ (cs ++ rest)) ≡ Lexeme Number (suc (length cs))
    by_digit false is = let none : number_length (c ∷ cs) ≡ 0 = rw is refl in absurd (omega (arith, none, all))
    by_digit true is =
        let piece : piece_at place (c ∷ (cs ++ rest)) ≡ Lexeme Number (number_length (cs ++ rest) + 1) =
        rw (digit-no_blank c is, differs is_ascii_digit 77 c refl is, differs is_ascii_digit 45 c refl is, differs is_ascii_digit 47 c refl is, digit-no_letter c is, is) refl in
        let one : number_length (c ∷ (cs ++ rest)) ≡ suc (number_length (cs ++ rest)) = rw is refl in
        let count : number_length (cs ++ rest) + 1 ≡ suc (length cs) = omega (arith, one, number-extends (c ∷ cs) rest all stops) in
        piece ∙ ap (Lexeme Number) count

-- ---- texts

quote-count : (text : List ℕ) → length text + 1 + 1 ≡ length (character "\"" ∷ text ++ character "\"" ∷ [])
quote-count text = omega (arith, length-append text (character "\"" ∷ []))

text-front : (place : ℕ) (text rest : List ℕ) → IsQuoted text → piece_at place (written Text text ++ rest) ≡ Lexeme Text (length (written Text text))
text-front place text rest is =
    ap (λ o. unwrap_or (option_map (λ n. Lexeme Text (n + 1)) o) (Bad (OpenString place))) (text-extends false (length text + 1) (text ++ character "\"" ∷ []) rest is)
    ∙ ap (Lexeme Text) (quote-count text)

-- ---- signs

to-signs : (place c : ℕ) (cs : List ℕ) → is_blank c ≡ false → begins_with_prefix_name (c ∷ cs) ≡ false → begins_with (codes "--") (c ∷ cs) ≡ false → begins_with (codes "/-") (c ∷ cs) ≡ false
    → is_letter c ≡ false → is_ascii_digit c ≡ false → (c == character "\"") ≡ false → piece_at place (c ∷ cs) ≡ sign_piece place (c ∷ cs)
to-signs place c cs no_blank no_prefix no_line no_comment no_letter no_digit no_quote = rw (no_blank, no_prefix, no_line, no_comment, no_letter, no_digit, no_quote) refl

one-piece : (place c : ℕ) (rest : List ℕ) → IsAlone c rest → sign_piece place (c ∷ rest) ≡ unwrap_or (option_map (λ s. Lexeme (SignToken s) 1) (sign_of_one c)) (Bad (BadByte place))
one-piece place c [] alone = refl
one-piece place c (d ∷ rest) alone =
    ap (λ o. unwrap_or (option_map (λ s. Lexeme (SignToken s) 2) o) (unwrap_or (option_map (λ s. Lexeme (SignToken s) 1) (sign_of_one c)) (Bad (BadByte place)))) alone

one-front : (place c : ℕ) (rest : List ℕ) (sign : Sign) → sign_of_one c ≡ Some sign → IsAlone c rest → piece_at place (c ∷ rest) ≡ Lexeme (SignToken sign) 1
one-front place c rest sign is alone =
    let no_m : (c == 77) ≡ false = one-fails c sign (λ x. x == 77) is refl in
    let no_minus : (c == 45) ≡ false = one-fails c sign (λ x. x == 45) is refl in
    let no_slash : (c == 47) ≡ false = one-fails c sign (λ x. x == 47) is refl in
    to-signs place c rest (one-fails c sign is_blank is refl) (rw no_m refl) (rw no_minus refl) (rw no_slash refl)
    (one-fails c sign is_letter is refl) (one-fails c sign is_ascii_digit is refl) (one-fails c sign (λ x. x == character "\"") is refl)
    ∙ one-piece place c rest alone
    ∙ ap (λ o. unwrap_or (option_map (λ s. Lexeme (SignToken s) 1) o) (Bad (BadByte place))) is

two-front : (place c d : ℕ) (rest : List ℕ) (sign : Sign) → sign_of_two c d ≡ Some sign → piece_at place (c ∷ d ∷ rest) ≡ Lexeme (SignToken sign) 2
two-front place c d rest sign is =
    let no_m : (c == 77) ≡ false = two-fails c d sign (λ x. x.0 == 77) is refl in
    to-signs place c (d ∷ rest) (two-fails c d sign (λ x. is_blank x.0) is refl) (rw no_m refl)
    (two-fails c d sign (λ x. begins_with (codes "--") (x.0 ∷ x.1 ∷ [])) is refl) (two-fails c d sign (λ x. begins_with (codes "/-") (x.0 ∷ x.1 ∷ [])) is refl)
    (two-fails c d sign (λ x. is_letter x.0) is refl) (two-fails c d sign (λ x. is_ascii_digit x.0) is refl) (two-fails c d sign (λ x. x.0 == character "\"") is refl)
    ∙ ap (λ o. unwrap_or (option_map (λ s. Lexeme (SignToken s) 2) o) (unwrap_or (option_map (λ s. Lexeme (SignToken s) 1) (sign_of_one c)) (Bad (BadByte place)))) is

short-front : (place : ℕ) (cs rest : List ℕ) (sign : Sign) → IsShortSign sign cs rest → piece_at place (cs ++ rest) ≡ Lexeme (SignToken sign) (length cs)
short-front place [] rest sign h = absurd h
short-front place (c ∷ []) rest sign h = one-front place c rest sign h.0 h.1
short-front place (c ∷ d ∷ []) rest sign h = two-front place c d rest sign h
short-front place (c ∷ d ∷ e ∷ cs) rest sign h = absurd h

-- ---- tokens

-- what the definition takes of a token, as the layout has it
pub record Front (place : ℕ) (kind : TokenKind) (text rest : List ℕ) : Type 0 where
  pub piece : piece_at place (written kind text ++ rest) ≡ Lexeme kind (length (written kind text))
  pub some : 0 < length (written kind text)
  pub short : is_long kind (encode_utf8_all text) ≡ false

pub token-front : (place : ℕ) (kind : TokenKind) (text rest : List ℕ) → IsToken kind text rest → Front place kind text rest
token-front place Name [] rest h = let clash : false ≡ true = h.0.0 in cc
token-front place Name (c ∷ cs) rest h = record { piece = name-front place c cs rest None h.0 h.1 h.3; some = omega arith; short = grind (arith, nat_tests, h.2) }
token-front place Number [] rest h = absurd (omega (arith, h.0.0))
token-front place Number (c ∷ cs) rest h = record { piece = number-front place c cs rest h.0.1 h.1; some = omega arith; short = grind (arith, nat_tests, h.2) }
token-front place Text text rest h = record { piece = text-front place text rest h; some = omega arith; short = refl }
token-front place (SignToken sign) [] rest (inl h) = absurd h
token-front place (SignToken sign) (c ∷ cs) rest (inl h) = record { piece = short-front place (c ∷ cs) rest sign h; some = omega arith; short = refl }
token-front place (SignToken sign) [] rest (inr h) = let clash : false ≡ true = h.0.0 in cc
token-front place (SignToken sign) (c ∷ cs) rest (inr h) = record { piece = name-front place c cs rest (Some sign) h.0 h.1 h.2; some = omega arith; short = refl }

pub written-text : (kind : TokenKind) (text rest : List ℕ) → token_text kind (length (written kind text)) (written kind text ++ rest) ≡ encode_utf8_all text
written-text Name text rest = ap encode_utf8_all (take_at text rest (length text) refl)
written-text Number text rest = ap encode_utf8_all (take_at text rest (length text) refl)
written-text Text text rest =
    let count : length text ≡ length (written Text text) - 2 = omega (arith, length-append text (character "\"" ∷ [])) in
    ap (λ x. encode_utf8_all (take (length (written Text text) - 2) x)) (append_assoc text (character "\"" ∷ []) rest)
    ∙ ap encode_utf8_all (take_at text (character "\"" ∷ rest) (length (written Text text) - 2) count)
written-text (SignToken sign) text rest = ap encode_utf8_all (take_at text rest (length text) refl)

-- ---- faults

pub bad-byte : (place c : ℕ) (cs : List ℕ) → BeginsNothing c cs → piece_at place (c ∷ cs) ≡ Bad (BadByte place)
bad-byte place c cs none =
    let no_m : (c == 77) ≡ false = by_m _ refl in
    to-signs place c cs none.no_blank (rw no_m refl) none.no_line_comment none.no_block_comment none.no_letter none.no_digit none.no_quote
    ∙ one-piece place c cs none.no_long_sign
    ∙ ap (λ o. unwrap_or (option_map (λ s. Lexeme (SignToken s) 1) o) (Bad (BadByte place))) none.no_sign
  where
    by_m : (b : Bool) → (c == 77) ≡ b → (c == 77) ≡ false
    by_m false is = is
    by_m true is =
        let same : c ≡ 77 = grind (arith, nat_tests, is) in
        let letter : is_letter c ≡ true = ap is_letter same in
        let other : is_letter c ≡ false = none.no_letter in
        cc

-- the name or number that is too long
pub record Long (place : ℕ) (cs : List ℕ) : Type 0 where
  pub kind : TokenKind
  pub count : ℕ
  pub text : List ℕ
  pub piece : piece_at place cs ≡ Lexeme kind count
  pub some : 0 < count
  pub within : count ≤ length cs
  pub text_is : text ≡ token_text kind count cs
  pub long : is_long kind text ≡ true

pub long-piece : (place : ℕ) (cs : List ℕ) → BeginsLong cs → Long place cs
long-piece place cs b = by_kind b.text b.rest b.whole b.kind b.long
  where
    by_kind : (text rest : List ℕ) → cs ≡ text ++ rest → (IsName text × (name_length rest ≡ 0)) ⊎ (IsNumber text × (number_length rest ≡ 0)) → 48 < length (encode_utf8_all text) → Long place cs
    by_kind [] rest whole kind long = absurd (omega (arith, long))
    by_kind (c ∷ text) rest whole (inl h) long = record {
      kind = Name;
      count = suc (length text);
      text = encode_utf8_all (c ∷ text);
      piece = ap (piece_at place) whole ∙ name-front place c text rest None h.0 h.1 (long-no_sign (encode_utf8_all (c ∷ text)) long);
      some = omega arith;
      within = omega (arith, ap length whole, length-append (c ∷ text) rest);
      text_is = ap encode_utf8_all (sym (ap (take (suc (length text))) whole ∙ take_at (c ∷ text) rest (suc (length text)) refl));
      long = grind (arith, nat_tests, long);
    }
    by_kind (c ∷ text) rest whole (inr h) long = record {
      kind = Number;
      count = suc (length text);
      text = encode_utf8_all (c ∷ text);
      piece = ap (piece_at place) whole ∙ number-front place c text rest h.0.1 h.1;
      some = omega arith;
      within = omega (arith, ap length whole, length-append (c ∷ text) rest);
      text_is = ap encode_utf8_all (sym (ap (take (suc (length text))) whole ∙ take_at (c ∷ text) rest (suc (length text)) refl));
      long = grind (arith, nat_tests, long);
    }
