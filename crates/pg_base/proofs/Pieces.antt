-- What stands at the front of a text is a gap, a token or a fault as the layout tells them.
use Rattle.std.proofs.Common.{◌≡◌, ℕ, zero, suc, ◌+◌, ◌-◌, ◌<◌, Bool, true, false, ◌&&◌, List, [], ◌∷◌, ◌++◌, length, take, drop, Option, Some, None, option_map, unwrap_or, codes, ◌==◌, inl, inr, sym, ◌∙◌, ap, refl, subst, arith, append_assoc, length-append}
use Rattle.std.proofs.lemmas.Bool.Decides.{nat_tests}
use Rattle.std.proofs.lemmas.List.{take_at}
use Rattle.std.specs.Char.{is_ascii_digit}
use Rattle.std.specs.Str.{encode_utf8_all}
use Rattle.pg_base.specs.declared.token.Sign.{Sign}
use Rattle.pg_base.specs.declared.token.TokenKind.{TokenKind}
use Rattle.pg_base.specs.declared.token.TokenKind.TheVariants.{Name, Number, Text, Sign as SignToken}
use Rattle.pg_base.specs.declared.token.LexFault.TheVariants.{BadByte, OpenString, OpenComment}
use Rattle.pg_base.specs.declared.token.Piece.{Piece}
use Rattle.pg_base.specs.declared.token.Piece.TheVariants.{Gap, Lexeme, Bad}
use Rattle.pg_base.specs.Characters.{character, is_letter, is_blank, begins_with_letter, begins_with, begins_with_prefix_name, name_length, number_length, line_length, comment_length, text_length}
use Rattle.pg_base.specs.Signs.{sign_of_one, sign_of_two, sign_of_name}
use Rattle.pg_base.specs.Tokens.{piece_at, sign_piece, name_kind, name_piece, comment_piece, token_text, is_long}
use Rattle.pg_base.specs.Layout.{IsGap, blank, prefix_name, line_comment, block_comment, IsName, IsAlone, IsToken, written, BeginsNothing, BeginsLong, IsFault}
use Rattle.pg_base.proofs.Runs.{name_run, number_run, line_run, front_letter, comment_reach, quoted}
use Rattle.pg_base.proofs.Sizes.{by_cases}

pub record CutGap (n : ℕ) (cs : List ℕ) : Type 0 where
  pub gap : List ℕ
  pub rest : List ℕ
  pub whole : cs ≡ gap ++ rest
  pub count : length gap ≡ n
  pub is : IsGap gap rest

pub record CutToken (kind : TokenKind) (n : ℕ) (cs : List ℕ) : Type 0 where
  pub text : List ℕ
  pub rest : List ℕ
  pub whole : cs ≡ written kind text ++ rest
  pub count : length (written kind text) ≡ n
  pub text_is : token_text kind n cs ≡ encode_utf8_all text
  pub short : is_long kind (encode_utf8_all text) ≡ false → IsToken kind text rest
  pub long : is_long kind (encode_utf8_all text) ≡ true → BeginsLong cs

-- what a piece says of the characters at whose front it stands
abbrev pub IsCut : ℕ → List ℕ → Piece → Type 0
IsCut place cs (Gap n) = CutGap n cs
IsCut place cs (Lexeme kind n) = CutToken kind n cs
IsCut place cs (Bad fault) = IsFault fault place cs

pub and_left : (a b : Bool) → (a && b) ≡ true → a ≡ true
and_left true b h = refl
and_left false b h = h

pub and_right : (a b : Bool) → (a && b) ≡ true → b ≡ true
and_right true b h = h
and_right false b h = cc

pub begins-split : (prefix cs : List ℕ) → begins_with prefix cs ≡ true → cs ≡ prefix ++ drop (length prefix) cs
begins-split [] cs h = refl
begins-split (p ∷ prefix) [] h = cc
begins-split (p ∷ prefix) (c ∷ cs) h =
    let tests : (c == p) ≡ true = and_left _ _ h in
    let same : c ≡ p = grind (arith, nat_tests, tests) in
    let rest = begins-split prefix cs (and_right (c == p) _ h) in
    ap (λ x. x ∷ cs) same ∙ ap (λ x. p ∷ x) rest

-- ---- gaps

line-cut : (cs : List ℕ) → begins_with (codes "--") cs ≡ true → CutGap (line_length cs) cs
line-cut cs h =
    let r = line_run (drop 2 cs) in
    let e : cs ≡ codes "--" ++ drop 2 cs = begins-split (codes "--") cs h in
    let count : line_length cs ≡ suc (suc (line_length (drop 2 cs))) = ap line_length e in
    record {
      gap = codes "--" ++ r.front;
      rest = r.rest;
      whole = e ∙ ap (λ x. codes "--" ++ x) r.whole;
      count = omega (arith, r.count, count);
      is = line_comment r.front r.rest r.all r.stops;
    }

comment-cut : (place : ℕ) (cs : List ℕ) → begins_with (codes "/-") cs ≡ true → IsCut place cs (comment_piece place cs)
comment-cut place cs h = by_end (comment_length 1 (drop 2 cs)) refl
  where
    by_end : (o : Option ℕ) → comment_length 1 (drop 2 cs) ≡ o → IsCut place cs (unwrap_or (option_map (λ n. Gap (n + 2)) o) (Bad (OpenComment place)))
    by_end None is = (refl, h, is)
    by_end (Some n) is =
        let r = comment_reach 1 n (drop 2 cs) is in
        record {
          gap = codes "/-" ++ r.front;
          rest = r.rest;
          whole = begins-split (codes "/-") cs h ∙ ap (λ x. codes "/-" ++ x) r.whole;
          count = omega (arith, r.count);
          is = block_comment r.front r.rest (r.all ∙ ap Some (sym r.count));
        }

-- ---- names and numbers

begins-front : (prefix cs rest : List ℕ) → begins_with prefix cs ≡ true → begins_with prefix (cs ++ rest) ≡ true
begins-front [] cs rest h = refl
begins-front (p ∷ prefix) [] rest h = cc
begins-front (p ∷ prefix) (c ∷ cs) rest h = rw (and_left (c == p) _ h) (begins-front prefix cs rest (and_right (c == p) _ h))

letter-front : (n : ℕ) (cs rest : List ℕ) → begins_with_letter (drop n cs) ≡ true → begins_with_letter (drop n (cs ++ rest)) ≡ true
letter-front zero [] rest h = cc
letter-front (suc n) [] rest h = cc
letter-front zero (c ∷ cs) rest h = h
letter-front (suc n) (c ∷ cs) rest h = letter-front n cs rest h

-- the front of what has no `MyNat.` before it has none
no-prefix : (cs front rest : List ℕ) → cs ≡ front ++ rest → begins_with_prefix_name cs ≡ false → begins_with_prefix_name front ≡ false
no-prefix cs front rest whole none = by_test _ refl
  where
    by_test : (b : Bool) → begins_with_prefix_name front ≡ b → begins_with_prefix_name front ≡ false
    by_test false is = is
    by_test true is =
        let begins : begins_with (codes "MyNat.") (front ++ rest) ≡ true = begins-front (codes "MyNat.") front rest (and_left _ _ is) in
        let letter : begins_with_letter (drop 6 (front ++ rest)) ≡ true = letter-front 6 front rest (and_right (begins_with (codes "MyNat.") front) _ is) in
        let yes : begins_with_prefix_name (front ++ rest) ≡ true = rw begins letter in
        let same : begins_with_prefix_name cs ≡ begins_with_prefix_name (front ++ rest) = ap begins_with_prefix_name whole in
        cc

-- a name, which may be a sign
by_sign : (n : ℕ) (cs front rest : List ℕ) → cs ≡ front ++ rest → length front ≡ n → take n cs ≡ front → IsName front → name_length rest ≡ 0
    → (o : Option Sign) → sign_of_name (encode_utf8_all front) ≡ o → CutToken (unwrap_or (option_map SignToken o) Name) n cs
by_sign n cs front rest whole count front_is name stops None is = record {
  text = front;
  rest = rest;
  whole = whole;
  count = count;
  text_is = ap encode_utf8_all front_is;
  short = λ short. (name, stops, grind (arith, nat_tests, short), is);
  long = λ long. record { text = front; rest = rest; whole = whole; kind = inl (name, stops); long = grind (arith, nat_tests, long) };
}
by_sign n cs front rest whole count front_is name stops (Some sign) is = record {
  text = front;
  rest = rest;
  whole = whole;
  count = count;
  text_is = ap encode_utf8_all front_is;
  short = λ short. inr (name, stops, is);
  long = λ long. cc;
}

name-cut : (place c : ℕ) (cs : List ℕ) → begins_with_prefix_name (c ∷ cs) ≡ false → is_letter c ≡ true → IsCut place (c ∷ cs) (name_piece (c ∷ cs) (name_length cs + 1))
name-cut place c cs prefix letter =
    let r = name_run (c ∷ cs) in
    let n : ℕ = name_length cs + 1 in
    let length_is : name_length (c ∷ cs) ≡ suc (name_length cs) = rw letter refl in
    let count : length r.front ≡ n = omega (arith, r.count, length_is) in
    let front : take n (c ∷ cs) ≡ r.front = ap (take n) r.whole ∙ take_at r.front r.rest n count in
    let name : IsName r.front = (front_letter (c ∷ cs) r.front r.rest r.whole r.stops ∙ letter, r.all, no-prefix (c ∷ cs) r.front r.rest r.whole prefix) in
    subst (λ text. CutToken (name_kind (encode_utf8_all text)) n (c ∷ cs)) (sym front) (by_sign n (c ∷ cs) r.front r.rest r.whole count front name r.stops _ refl)

number-cut : (place c : ℕ) (cs : List ℕ) → is_ascii_digit c ≡ true → CutToken Number (number_length cs + 1) (c ∷ cs)
number-cut place c cs digit =
    let r = number_run (c ∷ cs) in
    let length_is : number_length (c ∷ cs) ≡ suc (number_length cs) = rw digit refl in
    let count : length r.front ≡ number_length cs + 1 = omega (arith, r.count, length_is) in
    let some : 0 < length r.front = omega (arith, count) in
    record {
      text = r.front;
      rest = r.rest;
      whole = r.whole;
      count = count;
      text_is = ap (λ x. encode_utf8_all (take (number_length cs + 1) x)) r.whole ∙ ap encode_utf8_all (take_at r.front r.rest (number_length cs + 1) count);
      short = λ short. ((some, r.all), r.stops, grind (arith, nat_tests, short));
      long = λ long. record { text = r.front; rest = r.rest; whole = r.whole; kind = inr ((some, r.all), r.stops); long = grind (arith, nat_tests, long) };
    }

-- ---- texts

text-cut : (place c : ℕ) (cs : List ℕ) → (c == character "\"") ≡ true → IsCut place (c ∷ cs) (unwrap_or (option_map (λ n. Lexeme Text (n + 1)) (text_length false cs)) (Bad (OpenString place)))
text-cut place c cs quote = by_end (text_length false cs) refl
  where
    by_end : (o : Option ℕ) → text_length false cs ≡ o → IsCut place (c ∷ cs) (unwrap_or (option_map (λ n. Lexeme Text (n + 1)) o) (Bad (OpenString place)))
    by_end None is = (refl, rw quote refl, is)
    by_end (Some n) is =
        let q = quoted false n cs is in
        let inside_count : length q.inside ≡ n + 1 - 2 = omega (arith, q.count) in
        let same : c ≡ character "\"" = grind (arith, nat_tests, quote) in
        record {
          text = q.inside;
          rest = q.rest;
          whole = ap (λ x. x ∷ cs) same ∙ ap (λ x. character "\"" ∷ x) (q.whole ∙ sym (append_assoc q.inside (character "\"" ∷ []) q.rest));
          count = omega (arith, q.count, length-append q.inside (character "\"" ∷ []));
          text_is = ap (λ x. encode_utf8_all (take (n + 1 - 2) x)) q.whole ∙ ap encode_utf8_all (take_at q.inside (character "\"" ∷ q.rest) (n + 1 - 2) inside_count);
          short = λ short. q.all ∙ ap Some (sym q.count);
          long = λ long. cc;
        }

-- ---- signs

one-cut : (place c : ℕ) (cs : List ℕ) → (sign_of_one c ≡ None → BeginsNothing c cs) → IsAlone c cs → (o : Option Sign) → sign_of_one c ≡ o
    → IsCut place (c ∷ cs) (unwrap_or (option_map (λ s. Lexeme (SignToken s) 1) o) (Bad (BadByte place)))
one-cut place c cs nothing alone None is = (refl, nothing is)
one-cut place c cs nothing alone (Some sign) is = record { text = c ∷ []; rest = cs; whole = refl; count = refl; text_is = refl; short = λ short. inl (is, alone); long = λ long. cc }

sign-cut : (place c : ℕ) (cs : List ℕ) → (sign_of_one c ≡ None → IsAlone c cs → BeginsNothing c cs) → IsCut place (c ∷ cs) (sign_piece place (c ∷ cs))
sign-cut place c [] nothing = one-cut place c [] (λ no_sign. nothing no_sign tt) tt _ refl
sign-cut place c (d ∷ cs) nothing = by_two (sign_of_two c d) refl
  where
    by_two : (o : Option Sign) → sign_of_two c d ≡ o
        → IsCut place (c ∷ d ∷ cs) (unwrap_or (option_map (λ s. Lexeme (SignToken s) 2) o) (unwrap_or (option_map (λ s. Lexeme (SignToken s) 1) (sign_of_one c)) (Bad (BadByte place))))
    by_two None is = one-cut place c (d ∷ cs) (λ no_sign. nothing no_sign is) is _ refl
    by_two (Some sign) is = record { text = c ∷ d ∷ []; rest = cs; whole = refl; count = refl; text_is = refl; short = λ short. inl is; long = λ long. cc }

pub piece-cut : (place c : ℕ) (cs : List ℕ) → IsCut place (c ∷ cs) (piece_at place (c ∷ cs))
piece-cut place c cs =
    let P : Piece → Type 0 = IsCut place (c ∷ cs) in
    by_cases P (is_blank c) _ _ (λ h. record { gap = c ∷ []; rest = cs; whole = refl; count = refl; is = blank c cs h }) (λ no_blank.
    by_cases P (begins_with_prefix_name (c ∷ cs)) _ _ (λ h. record { gap = codes "MyNat."; rest = drop 6 (c ∷ cs); whole = begins-split (codes "MyNat.") (c ∷ cs) (and_left _ _ h); count = refl; is = prefix_name (drop 6 (c ∷ cs)) (and_right (begins_with (codes "MyNat.") (c ∷ cs)) _ h) }) (λ no_prefix.
    by_cases P (begins_with (codes "--") (c ∷ cs)) _ _ (line-cut (c ∷ cs)) (λ no_line.
    by_cases P (begins_with (codes "/-") (c ∷ cs)) _ _ (comment-cut place (c ∷ cs)) (λ no_comment.
    by_cases P (is_letter c) _ _ (name-cut place c cs no_prefix) (λ no_letter.
    by_cases P (is_ascii_digit c) _ _ (number-cut place c cs) (λ no_digit.
    by_cases P (c == character "\"") _ _ (text-cut place c cs) (λ no_quote.
    sign-cut place c cs (λ no_sign no_long_sign. record { no_blank = no_blank; no_line_comment = no_line; no_block_comment = no_comment; no_letter = no_letter; no_digit = no_digit; no_quote = no_quote; no_sign = no_sign; no_long_sign = no_long_sign }))))))))
