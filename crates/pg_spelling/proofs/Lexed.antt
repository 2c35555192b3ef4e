-- Tokens at the front of a text, and what comes behind them.
use Rattle.std.proofs.Common.{◌≡◌, ℕ, suc, ◌+◌, ◌-◌, ◌≤◌, Bool, true, false, cond, ◌&&◌, ◌||◌, not, nat_le, nat_lt, List, [], ◌∷◌, ◌++◌, length, drop, map, Some, None, option_map, unwrap_or, codes, ◌==◌, inl, sym, ◌∙◌, ap, refl, subst, arith, append_assoc, append-nil, length-append}
use Rattle.std.proofs.lemmas.Bool.{and_parts, false≢true}
use Rattle.std.proofs.lemmas.Bool.Decides.{nat_tests}
use Rattle.std.proofs.lemmas.List.{take_at}
use Rattle.std.proofs.lemmas.Slice.Eq.{bytes_eq-Decides}
use Rattle.std.proofs.lemmas.Str.{encodes-chars, length-encode}
use Rattle.std.specs.Char.{len_utf8, is_ascii_digit, encode_utf8}
use Rattle.std.specs.List.{list_all}
use Rattle.std.specs.Str.{bytes_eq, chars, encode_utf8_all}
use Rattle.pg_base.specs.declared.token.Sign.{Sign}
use Rattle.pg_base.specs.declared.token.Sign.TheVariants as sign
use Rattle.pg_base.specs.declared.token.TokenKind.{TokenKind}
use Rattle.pg_base.specs.declared.token.TokenKind.TheVariants as kind
use Rattle.pg_base.specs.declared.token.LexFault.{LexFault}
use Rattle.pg_base.specs.declared.token.Piece.TheVariants.{Lexeme}
use Rattle.pg_base.specs.Characters.{character, is_letter, is_blank, is_name_character, begins_with, begins_with_letter, begins_with_prefix_name, name_length, number_length}
use Rattle.pg_base.specs.Signs.{sign_in, two_character_signs, sign_of_two, sign_of_name}
use Rattle.pg_base.specs.Reserved.{is_reserved}
use Rattle.pg_base.specs.Tokens.{Position, Lexed, past, begun, size, piece_at, name_piece, name_kind, token_text, is_long, with_piece, with_word, lexed_from}
use Rattle.pg_base.specs.Layout.{IsName, IsAlone, IsToken}
use Rattle.pg_grammar.specs.Shapes.{Sym, Name, Number, FalseWord, SuccWord, Other}
use Rattle.pg_shape.specs.Symbols.{symbol, kind_symbol, name_symbol, sign_symbol}
use Rattle.pg_spelling.specs.TextBack.{IsNameToken, IsNumberToken, IsFreeName, is_stop, Stops, TokenLaw}
use Rattle.pg_spelling.proofs.Fresh.{by_bool}

-- ---- characters that differ

-- one character passes a test, the other doesn't
pub differs : (f : ℕ → Bool) (k c : ℕ) → f k ≡ false → f c ≡ true → (c == k) ≡ false
differs f k c off on =
    by_bool (λ b. (c == k) ≡ b → b ≡ false) (c == k)
    (λ _ is. let same : c ≡ k = grind (arith, nat_tests, is) in absurd (false≢true (sym off ∙ ap f (sym same) ∙ on)))
    (λ _ is. refl) refl

letter-no_blank : (c : ℕ) → is_letter c ≡ true → is_blank c ≡ false
letter-no_blank c on = rw (differs is_letter 32 c refl on, differs is_letter 9 c refl on, differs is_letter 13 c refl on, differs is_letter 10 c refl on) refl

digit-no_blank : (c : ℕ) → is_ascii_digit c ≡ true → is_blank c ≡ false
digit-no_blank c on = rw (differs is_ascii_digit 32 c refl on, differs is_ascii_digit 9 c refl on, differs is_ascii_digit 13 c refl on, differs is_ascii_digit 10 c refl on) refl

pub digit-no_letter : (c : ℕ) → is_ascii_digit c ≡ true → is_letter c ≡ false
digit-no_letter c on =
    let high : nat_le c 57 ≡ true = (and_parts (nat_le 48 c) _ on).1 in
    let below : c ≤ 57 = grind (arith, nat_tests, high) in
    let upper : nat_le 65 c ≡ false = grind (arith, nat_tests, below) in
    let lower : nat_le 97 c ≡ false = grind (arith, nat_tests, below) in
    let line : (c == 95) ≡ false = grind (arith, nat_tests, below) in
    let greek : nat_le 0x3b1 c ≡ false = grind (arith, nat_tests, below) in
    rw (upper, lower, line, greek) refl

-- a character that stops passes no test that the stops fail
fails-at : (f : ℕ → Bool) (k c : ℕ) → f k ≡ false → (c == k) ≡ true → f c ≡ false
fails-at f k c off is = let same : c ≡ k = grind (arith, nat_tests, is) in ap f same ∙ off

either : (P : Type 0) (a b : Bool) → (a || b) ≡ true → (a ≡ true → P) → (b ≡ true → P) → P
either P true b h f g = f refl
either P false b h f g = g h

stop-fails : (f : ℕ → Bool) (c : ℕ) → f 32 ≡ false → f 9 ≡ false → f 13 ≡ false → f 10 ≡ false → f 40 ≡ false → f 41 ≡ false → f 44 ≡ false → is_stop c ≡ true → f c ≡ false
stop-fails f c a b d e g h i on =
    let P : Type 0 = f c ≡ false in
    either P _ (c == 44) on
    (λ k. either P _ (c == 41) k
    (λ k. either P (is_blank c) (c == 40) k
    (λ k. either P _ (c == 10) k (λ k. either P _ (c == 13) k (λ k. either P (c == 32) (c == 9) k (fails-at f 32 c a) (fails-at f 9 c b)) (fails-at f 13 c d)) (fails-at f 10 c e))
    (fails-at f 40 c g))
    (fails-at f 41 c h))
    (fails-at f 44 c i)

name-stops : (rest : List ℕ) → Stops rest → name_length rest ≡ 0
name-stops [] h = refl
name-stops (c ∷ cs) h = rw (stop-fails is_name_character c refl refl refl refl refl refl refl h, stop-fails (λ x. x == 46) c refl refl refl refl refl refl refl h) refl

letter-stops : (rest : List ℕ) → Stops rest → begins_with_letter rest ≡ false
letter-stops [] h = refl
letter-stops (c ∷ cs) h = stop-fails is_letter c refl refl refl refl refl refl refl h

number-stops : (rest : List ℕ) → Stops rest → number_length rest ≡ 0
number-stops [] h = refl
number-stops (c ∷ cs) h = rw (stop-fails is_ascii_digit c refl refl refl refl refl refl refl h) refl

-- no row of a table whose spellings all fail a test is found by a spelling that passes it
pub no-row : {X : Type 0} (find test : X → Bool) (rows : List (X × Sign)) → ((x : X) → find x ≡ true → test x ≡ true) → list_all (λ row. not (test row.0)) rows ≡ true → sign_in find rows ≡ None
no-row find test [] finds none = refl
no-row find test (row ∷ rows) finds none =
    let parts = and_parts (not (test row.0)) _ none in
    by_bool (λ b. find row.0 ≡ b → cond b (Some row.1) (sign_in find rows) ≡ None) (find row.0)
    (λ _ is. absurd (false≢true (ap not (sym (finds row.0 is)) ∙ parts.0)))
    (λ _ is. no-row find test rows finds parts.1) refl

two-stops : (c d : ℕ) → is_stop d ≡ true → sign_of_two c d ≡ None
two-stops c d h =
    no-row (λ spelling. (c == spelling.0) && (d == spelling.1)) (λ spelling. is_stop spelling.1) two_character_signs
    (λ x k. let right : (d == x.1) ≡ true = (and_parts (c == x.0) _ k).1 in let same : d ≡ x.1 = grind (arith, nat_tests, right) in ap is_stop (sym same) ∙ h) refl

alone-stops : (c : ℕ) (rest : List ℕ) → Stops rest → IsAlone c rest
alone-stops c [] h = tt
alone-stops c (d ∷ rest) h = two-stops c d h

pub token-law : TokenLaw
token-law = record {
  name = λ text rest h stop. (h.1.0, name-stops rest stop, h.1.2, h.1.3);
  number = λ text rest h stop. (h.1.0, number-stops rest stop, h.1.2);
  sign = λ sign c rest is stop. inl (is, alone-stops c rest stop);
}

-- ---- names

-- whether a character goes on a name before these
abbrev pub goes_on : ℕ → List ℕ → Bool
goes_on c cs = is_name_character c || ((c == character ".") && begins_with_letter cs)

pub letter-front : (cs rest : List ℕ) → begins_with_letter rest ≡ false → begins_with_letter (cs ++ rest) ≡ begins_with_letter cs
letter-front [] rest h = h
letter-front (c ∷ cs) rest h = refl

name-extends : (cs rest : List ℕ) → name_length cs ≡ length cs → name_length rest ≡ 0 → begins_with_letter rest ≡ false → name_length (cs ++ rest) ≡ length cs
name-extends [] rest all stops none = stops
name-extends (c ∷ cs) rest all stops none =
    by_bool (λ b. goes_on c cs ≡ b → cond b (suc (name_length cs)) 0 ≡ suc (length cs) → name_length (c ∷ (cs ++ rest)) ≡ suc (length cs)) (goes_on c cs)
    (λ _ is h.
    let same : goes_on c (cs ++ rest) ≡ true = ap (λ b. is_name_character c || ((c == character ".") && b)) (letter-front cs rest none) ∙ is in
    ap (λ b. cond b (suc (name_length (cs ++ rest))) 0) same ∙ ap suc (name-extends cs rest (omega (arith, h)) stops none))
    (λ _ is h. absurd (omega (arith, h))) refl all

-- a spelling of letters and points
abbrev are_marks : List ℕ → Bool
are_marks cs = list_all (λ k. is_letter k || (k == 46)) cs

-- nothing, or no letter and no point first
abbrev pub IsOutside : List ℕ → Type 0
IsOutside [] = Unit {0}
IsOutside (c ∷ cs) = (is_letter c ≡ false) × ((c == 46) ≡ false)

abbrev prefixed : List ℕ → List ℕ → Bool
prefixed p cs = begins_with p cs && begins_with_letter (drop (length p) cs)

-- such a spelling and the letter behind it stand in the front alone
prefix-within : (p front xs ys : List ℕ) → are_marks p ≡ true → IsOutside xs → prefixed p (front ++ xs) ≡ true → prefixed p (front ++ ys) ≡ true
prefix-within [] [] [] ys m o h = absurd (false≢true h)
prefix-within [] [] (x ∷ xs) ys m o h = absurd (false≢true (sym o.0 ∙ h))
prefix-within [] (f ∷ front) xs ys m o h = h
prefix-within (k ∷ p) [] [] ys m o h = absurd (false≢true h)
prefix-within (k ∷ p) [] (x ∷ xs) ys m o h =
    let is : (x == k) ≡ true = (and_parts (x == k) _ (and_parts _ _ h).0).0 in
    let same : x ≡ k = grind (arith, nat_tests, is) in
    let mark : (is_letter x || (x == 46)) ≡ true = ap (λ y. is_letter y || (y == 46)) same ∙ (and_parts _ _ m).0 in
    either _ (is_letter x) (x == 46) mark (λ e. absurd (false≢true (sym o.0 ∙ e))) (λ e. absurd (false≢true (sym o.1 ∙ e)))
prefix-within (k ∷ p) (f ∷ front) xs ys m o h =
    by_bool (λ b. ((b && begins_with p (front ++ xs)) && begins_with_letter (drop (length p) (front ++ xs))) ≡ true → ((b && begins_with p (front ++ ys)) && begins_with_letter (drop (length p) (front ++ ys))) ≡ true) (f == k)
    (λ _ i. prefix-within p front xs ys (and_parts _ _ m).1 o i) (λ _ i. absurd (false≢true i)) h

pub no-prefix : (front xs ys : List ℕ) → IsOutside xs → begins_with_prefix_name (front ++ ys) ≡ false → begins_with_prefix_name (front ++ xs) ≡ false
no-prefix front xs ys o h =
    by_bool (λ b. begins_with_prefix_name (front ++ xs) ≡ b → b ≡ false) (begins_with_prefix_name (front ++ xs))
    (λ _ is. absurd (false≢true (sym h ∙ prefix-within (codes "MyNat.") front xs ys refl o is))) (λ _ is. refl) refl

outside-stops : (rest : List ℕ) → Stops rest → IsOutside rest
outside-stops [] h = tt
outside-stops (c ∷ cs) h = (stop-fails is_letter c refl refl refl refl refl refl refl h, stop-fails (λ x. x == 46) c refl refl refl refl refl refl refl h)

name-piece : (place c : ℕ) (cs rest : List ℕ) → IsName (c ∷ cs) → sign_of_name (encode_utf8_all (c ∷ cs)) ≡ None → Stops rest
    → piece_at place (c ∷ (cs ++ rest)) ≡ Lexeme kind.Name (suc (length cs))
name-piece place c cs rest name is stop =
    let letter : is_letter c ≡ true = name.0 in
    let no_prefix : begins_with_prefix_name (c ∷ (cs ++ rest)) ≡ false = no-prefix (c ∷ cs) rest [] (outside-stops rest stop) (ap begins_with_prefix_name (append-nil (c ∷ cs)) ∙ name.2) in
    let piece : piece_at place (c ∷ (cs ++ rest)) ≡ name_piece (c ∷ (cs ++ rest)) (name_length (cs ++ rest) + 1) =
    rw (letter-no_blank c letter, no_prefix, differs is_letter 45 c refl letter, differs is_letter 47 c refl letter, letter) refl in
    let one : name_length (c ∷ (cs ++ rest)) ≡ suc (name_length (cs ++ rest)) = rw letter refl in
    let count : name_length (cs ++ rest) + 1 ≡ suc (length cs) = omega (arith, one, name-extends (c ∷ cs) rest name.1 (name-stops rest stop) (letter-stops rest stop)) in
    piece ∙ ap (name_piece (c ∷ (cs ++ rest))) count
    ∙ ap (λ text. Lexeme (name_kind (encode_utf8_all text)) (suc (length cs))) (take_at (c ∷ cs) rest (suc (length cs)) refl)
    ∙ ap (λ o. Lexeme (unwrap_or (option_map kind.Sign o) kind.Name) (suc (length cs))) is

-- ---- numbers

number-extends : (cs rest : List ℕ) → number_length cs ≡ length cs → number_length rest ≡ 0 → number_length (cs ++ rest) ≡ length cs
number-extends [] rest all stops = stops
number-extends (c ∷ cs) rest all stops =
    by_bool (λ b. cond b (suc (number_length cs)) 0 ≡ suc (length cs) → cond b (suc (number_length (cs ++ rest))) 0 ≡ suc (length cs)) (is_ascii_digit c)
    (λ _ h. ap suc (number-extends cs rest (omega (arith, h)) stops)) (λ _ h. absurd (omega (arith, h))) all

first-digit : (c : ℕ) (cs : List ℕ) → number_length (c ∷ cs) ≡ suc (length cs) → is_ascii_digit c ≡ true
first-digit c cs all =
    by_bool (λ b. cond b (suc (number_length cs)) 0 ≡ suc (length cs) → b ≡ true) (is_ascii_digit c) (λ _ h. refl) (λ _ h. absurd (omega (arith, h))) all

number-piece : (place c : ℕ) (cs rest : List ℕ) → number_length (c ∷ cs) ≡ suc (length cs) → Stops rest → piece_at place (c ∷ (cs ++ rest)) ≡ Lexeme kind.Number (suc (length cs))
number-piece place c cs rest all stop =
    let is : is_ascii_digit c ≡ true = first-digit c cs all in
    let piece : piece_at place (c ∷ (cs ++ rest)) ≡ Lexeme kind.Number (number_length (cs ++ rest) + 1) =
    rw (digit-no_blank c is, differs is_ascii_digit 77 c refl is, differs is_ascii_digit 45 c refl is, differs is_ascii_digit 47 c refl is, digit-no_letter c is, is) refl in
    let one : number_length (c ∷ (cs ++ rest)) ≡ suc (number_length (cs ++ rest)) = rw is refl in
    let count : number_length (cs ++ rest) + 1 ≡ suc (length cs) = omega (arith, one, number-extends (c ∷ cs) rest all (number-stops rest stop)) in
    piece ∙ ap (Lexeme kind.Number) count

-- ---- a step of the lexer

-- From this position on the characters spell these symbols, end at this byte, and then come the rest.
pub record Goes (p : Position) (cs : List ℕ) (end : ℕ) (syms : List Sym) (rest : List ℕ) : Type 0 where
  pub after : Position
  pub place : after.place ≡ end
  pub symbols : map symbol (lexed_from 0 p cs).words ≡ syms ++ map symbol (lexed_from 0 after rest).words
  pub fault : (lexed_from 0 p cs).fault ≡ (lexed_from 0 after rest).fault

pub goes-then : {p : Position} {cs mid rest : List ℕ} {from to : ℕ} {a b : List Sym} → Goes p cs from a mid → ((q : Position) → q.place ≡ from → Goes q mid to b rest) → Goes p cs to (a ++ b) rest
goes-then {p} {cs} {mid} {rest} {from} {to} {a} {b} g f =
    let h = f g.after g.place in
    record {
      after = h.after;
      place = h.place;
      symbols = g.symbols ∙ ap (λ x. a ++ x) h.symbols ∙ sym (append_assoc a b (map symbol (lexed_from 0 h.after rest).words));
      fault = g.fault ∙ h.fault;
    }

pub goes-to : {p : Position} {cs rest : List ℕ} {from to : ℕ} {a : List Sym} → Goes p cs from a rest → from ≡ to → Goes p cs to a rest
goes-to g e = record { after = g.after; place = g.place ∙ e; symbols = g.symbols; fault = g.fault }

passed : List ℕ → Position → Position
passed [] p = p
passed (c ∷ cs) p = passed cs (past c p)

pass-over : (cs rest : List ℕ) (p : Position) → lexed_from (length cs) p (cs ++ rest) ≡ lexed_from 0 (passed cs p) rest
unfolding passed
pass-over [] rest p = refl
pass-over (c ∷ cs) rest p = pass-over cs rest (past c p)

passed-place : (cs : List ℕ) (p : Position) → (passed cs p).place ≡ p.place + length (encode_utf8_all cs)
unfolding passed
passed-place [] p = omega arith
passed-place (c ∷ cs) p =
    let next : (passed (c ∷ cs) p).place ≡ p.place + len_utf8 c + length (encode_utf8_all cs) = passed-place cs (past c p) in
    let bytes : length (encode_utf8_all (c ∷ cs)) ≡ len_utf8 c + length (encode_utf8_all cs) = length-append (encode_utf8 c) (encode_utf8_all cs) ∙ ap (λ n. n + length (encode_utf8_all cs)) (length-encode c) in
    omega (arith, next, bytes)

goes-piece : (p : Position) (k : TokenKind) (c : ℕ) (cs rest : List ℕ) → piece_at p.place (c ∷ (cs ++ rest)) ≡ Lexeme k (suc (length cs))
    → token_text k (suc (length cs)) (c ∷ (cs ++ rest)) ≡ encode_utf8_all (c ∷ cs) → is_long k (encode_utf8_all (c ∷ cs)) ≡ false
    → Goes p (c ∷ (cs ++ rest)) (p.place + length (encode_utf8_all (c ∷ cs))) (kind_symbol k p.place (encode_utf8_all (c ∷ cs)) ∷ []) rest
unfolding passed
goes-piece p k c cs rest piece text short =
    let q : Position = record { place = p.place; column = p.column; fresh = false } in
    let text_now : List ℕ = encode_utf8_all (c ∷ cs) in
    let more : Lexed = lexed_from 0 (passed (c ∷ cs) q) rest in
    let one : suc (length cs) - 1 ≡ length cs = omega arith in
    let whole : lexed_from 0 p (c ∷ (cs ++ rest)) ≡ record { words = record { kind = k; text = text_now; at = p.place; column = p.column; first = p.fresh } ∷ more.words; fault = more.fault } =
    ap (λ x. with_piece p (c ∷ (cs ++ rest)) x (lexed_from (size x - 1) (past c (begun x p)) (cs ++ rest))) piece
    ∙ ap (λ n. with_word p k (token_text k (suc (length cs)) (c ∷ (cs ++ rest))) (lexed_from n (past c q) (cs ++ rest))) one
    ∙ ap (λ r. with_word p k (token_text k (suc (length cs)) (c ∷ (cs ++ rest))) r) (pass-over cs rest (past c q))
    ∙ ap (λ t. with_word p k t more) text
    ∙ ap (λ b. cond b (record { words = []; fault = Some (LexFault.LongName p.place) }) (record { words = record { kind = k; text = text_now; at = p.place; column = p.column; first = p.fresh } ∷ more.words; fault = more.fault })) short in
    record {
      after = passed (c ∷ cs) q;
      place = passed-place (c ∷ cs) q;
      symbols = ap (λ (x : Lexed). map symbol x.words) whole;
      fault = ap (λ (x : Lexed). x.fault) whole;
    }

-- ---- names, numbers, signs and blanks

pub name-goes : (p : Position) (cs rest : List ℕ) → IsToken kind.Name cs [] → Stops rest → Goes p (cs ++ rest) (p.place + length (encode_utf8_all cs)) (name_symbol p.place (encode_utf8_all cs) ∷ []) rest
name-goes p [] rest h stop = absurd (false≢true h.0.0)
name-goes p (c ∷ cs) rest h stop =
    let short : nat_lt 48 (length (encode_utf8_all (c ∷ cs))) ≡ false = grind (arith, nat_tests, h.2) in
    goes-piece p kind.Name c cs rest (name-piece p.place c cs rest h.0 h.3 stop) (ap encode_utf8_all (take_at (c ∷ cs) rest (suc (length cs)) refl)) short

pub number-goes : (p : Position) (cs rest : List ℕ) → IsToken kind.Number cs [] → Stops rest
    → Goes p (cs ++ rest) (p.place + length (encode_utf8_all cs)) (Number (record { at = p.place; text = encode_utf8_all cs }) ∷ []) rest
number-goes p [] rest h stop = absurd (omega (arith, h.0.0))
number-goes p (c ∷ cs) rest h stop =
    let short : nat_lt 48 (length (encode_utf8_all (c ∷ cs))) ≡ false = grind (arith, nat_tests, h.2) in
    goes-piece p kind.Number c cs rest (number-piece p.place c cs rest h.0.1 stop) (ap encode_utf8_all (take_at (c ∷ cs) rest (suc (length cs)) refl)) short

pub goes-name : (p : Position) (at : ℕ) (text rest : List ℕ) → p.place ≡ at → IsNameToken text → Stops rest → Goes p (chars text ++ rest) (at + length text) (name_symbol at text ∷ []) rest
goes-name p at text rest e h stop =
    let P : ℕ → Type 0 = λ n. Goes p (chars text ++ rest) (n + length text) (name_symbol n text ∷ []) rest in
    subst P e (subst (λ t. Goes p (chars text ++ rest) (p.place + length t) (name_symbol p.place t ∷ []) rest) (encodes-chars text h.0) (name-goes p (chars text) rest h.1 stop))

pub goes-number : (p : Position) (at : ℕ) (text rest : List ℕ) → p.place ≡ at → IsNumberToken text → Stops rest
    → Goes p (chars text ++ rest) (at + length text) (Number (record { at = at; text = text }) ∷ []) rest
goes-number p at text rest e h stop =
    let P : ℕ → Type 0 = λ n. Goes p (chars text ++ rest) (n + length text) (Number (record { at = n; text = text }) ∷ []) rest in
    subst P e
    (subst (λ t. Goes p (chars text ++ rest) (p.place + length t) (Number (record { at = p.place; text = t }) ∷ []) rest) (encodes-chars text h.0) (number-goes p (chars text) rest h.1 stop))

-- what isn't reserved is a name
not-word : (text word : List ℕ) → is_reserved text ≡ false → is_reserved word ≡ true → bytes_eq text word ≡ false
not-word text word free held =
    by_bool (λ b. bytes_eq text word ≡ b → b ≡ false) (bytes_eq text word)
    (λ _ is. absurd (false≢true (sym free ∙ ap is_reserved ((bytes_eq-Decides text word).0 is) ∙ held))) (λ _ is. refl) refl

free-symbol : (at : ℕ) (text : List ℕ) → is_reserved text ≡ false → name_symbol at text ≡ Name (record { at = at; text = text })
free-symbol at text free =
    let name : Sym = Name (record { at = at; text = text }) in
    let others : Sym = cond (is_reserved text) Other name in
    ap (λ b. cond b (SuccWord at) (cond (bytes_eq text (codes "False")) (FalseWord at) others)) (not-word text (codes "succ") free refl)
    ∙ ap (λ b. cond b (FalseWord at) others) (not-word text (codes "False") free refl)
    ∙ ap (λ b. cond b Other name) free

pub goes-free : (p : Position) (at : ℕ) (text rest : List ℕ) → p.place ≡ at → IsFreeName text → Stops rest → Goes p (chars text ++ rest) (at + length text) (Name (record { at = at; text = text }) ∷ []) rest
goes-free p at text rest e h stop =
    subst (λ x. Goes p (chars text ++ rest) (at + length text) (x ∷ []) rest) (free-symbol at text h.1) (goes-name p at text rest e h.0 stop)

pub goes-sign : (p : Position) (at : ℕ) (s : Sign) (c : ℕ) (rest : List ℕ) → p.place ≡ at → piece_at p.place (c ∷ rest) ≡ Lexeme (kind.Sign s) 1 → Goes p (c ∷ rest) (at + len_utf8 c) (sign_symbol at s ∷ []) rest
goes-sign p at s c rest e piece =
    let size_is : length (encode_utf8_all (c ∷ [])) ≡ len_utf8 c = ap length (append-nil (encode_utf8 c)) ∙ length-encode c in
    let P : ℕ → Type 0 = λ n. Goes p (c ∷ rest) (n + len_utf8 c) (sign_symbol n s ∷ []) rest in
    subst P e (goes-to (goes-piece p (kind.Sign s) c [] rest piece refl refl) (ap (λ n. p.place + n) size_is))

pub goes-blank : (p : Position) (at : ℕ) (rest : List ℕ) → p.place ≡ at → Goes p (32 ∷ rest) (at + 1) [] rest
goes-blank p at rest e = record { after = past 32 p; place = ap (λ n. n + 1) e; symbols = refl; fault = refl }

-- a word of ASCII characters
pub goes-word : (p : Position) (at : ℕ) (cs rest : List ℕ) → p.place ≡ at → encode_utf8_all cs ≡ cs → IsToken kind.Name cs [] → Stops rest → Goes p (cs ++ rest) (at + length cs) (name_symbol at cs ∷ []) rest
goes-word p at cs rest e ascii h stop =
    let P : ℕ → Type 0 = λ n. Goes p (cs ++ rest) (n + length cs) (name_symbol n cs ∷ []) rest in
    subst P e (subst (λ t. Goes p (cs ++ rest) (p.place + length t) (name_symbol p.place t ∷ []) rest) ascii (name-goes p cs rest h stop))

open-piece : (place : ℕ) (rest : List ℕ) → piece_at place (40 ∷ rest) ≡ Lexeme (kind.Sign sign.OpenParen) 1
open-piece place [] = refl
open-piece place (c ∷ rest) = refl

close-piece : (place : ℕ) (rest : List ℕ) → piece_at place (41 ∷ rest) ≡ Lexeme (kind.Sign sign.CloseParen) 1
close-piece place [] = refl
close-piece place (c ∷ rest) = refl

pub goes-open : (p : Position) (at : ℕ) (rest : List ℕ) → p.place ≡ at → Goes p (40 ∷ rest) (at + 1) (sign_symbol at sign.OpenParen ∷ []) rest
goes-open p at rest e = goes-sign p at sign.OpenParen 40 rest e (open-piece p.place rest)

pub goes-close : (p : Position) (at : ℕ) (rest : List ℕ) → p.place ≡ at → Goes p (41 ∷ rest) (at + 1) (sign_symbol at sign.CloseParen ∷ []) rest
goes-close p at rest e = goes-sign p at sign.CloseParen 41 rest e (close-piece p.place rest)
