-- A text is laid out as the tokens that the lexer's definition gives.
use Rattle.std.proofs.Common.{◌≡◌, ℕ, zero, suc, ◌+◌, ◌-◌, ◌<◌, ◌≤◌, Bool, true, false, cond, ◌||◌, List, [], ◌∷◌, ◌++◌, length, take, drop, reverse, Option, ◌==◌, sym, ◌∙◌, ap, refl, subst, arith, append_assoc, append-nil, length-append, add-one, encode_utf8}
use Rattle.std.proofs.lemmas.List.{take_at, drop_at, reverse-append}
use Rattle.std.proofs.lemmas.Str.{length-encode, encodes-append}
use Rattle.std.specs.Char.{len_utf8}
use Rattle.std.specs.Str.{chars, encode_utf8_all}
use Rattle.pg_base.specs.declared.token.LexFault.{LexFault}
use Rattle.pg_base.specs.declared.token.LexFault.TheVariants.{LongName}
use Rattle.pg_base.specs.declared.token.TokenKind.{TokenKind}
use Rattle.pg_base.specs.declared.token.Piece.{Piece}
use Rattle.pg_base.specs.declared.token.Piece.TheVariants.{Gap, Lexeme, Bad}
use Rattle.pg_base.specs.Characters.{line_length}
use Rattle.pg_base.specs.Tokens.{Position, Lexed, Word, past, begun, size, piece_at, token_text, is_long, with_piece, with_word, lexed_from, lexed}
use Rattle.pg_base.specs.Layout.{written, has_line_feed, LaidOut, ends, breaks, gap, token}
use Rattle.pg_base.proofs.Pieces.{CutGap, CutToken, IsCut, piece-cut}
use Rattle.pg_base.proofs.Sizes.{piece_at-sized}
use Rattle.pg_base.proofs.Lexing.{short_word, long_word}

-- the position behind these characters of the text, the second those since the last token began
abbrev pub place_behind : List ℕ → List ℕ → Position
place_behind before since = record { place = length (encode_utf8_all before); column = line_length (reverse before); fresh = has_line_feed since }

or-swap : (a b x : Bool) → (a || (b || x)) ≡ (b || (a || x))
or-swap true true x = refl
or-swap true false x = refl
or-swap false true x = refl
or-swap false false x = refl

feed-append : (since : List ℕ) (c : ℕ) → has_line_feed (since ++ c ∷ []) ≡ ((c == 10) || has_line_feed since)
feed-append [] c = refl
feed-append (s ∷ since) c = ap (λ b. (s == 10) || b) (feed-append since c) ∙ or-swap (s == 10) (c == 10) (has_line_feed since)

same_position : (a b : ℕ) (c d : ℕ) (e f : Bool) → a ≡ b → c ≡ d → e ≡ f
    → record { place = a; column = c; fresh = e } ≡ (let p : Position = record { place = b; column = d; fresh = f } in p)
same_position a b c d e f p q r = λ i. record { place = p i; column = q i; fresh = r i }

pub past-place : (c : ℕ) (before since : List ℕ) → past c (place_behind before since) ≡ place_behind (before ++ c ∷ []) (since ++ c ∷ [])
past-place c before since =
    let bytes : length (encode_utf8_all before) + len_utf8 c ≡ length (encode_utf8_all (before ++ c ∷ [])) =
    omega (arith, ap length (encodes-append before (c ∷ [])), length-append (encode_utf8_all before) (encode_utf8_all (c ∷ [])), length-append (encode_utf8 c) [], length-encode c) in
    let turned : reverse (before ++ c ∷ []) ≡ c ∷ reverse before = reverse-append before (c ∷ []) in
    let column = ap (cond (c == 10) 0) (add-one (line_length (reverse before))) ∙ sym (ap line_length turned) in
    same_position _ _ _ _ _ _ bytes column (sym (feed-append since c))

lay-same : {before before' since since' cs cs' : List ℕ} {words : List Word} {fault : Option LexFault} → before ≡ before' → since ≡ since' → cs ≡ cs'
    → LaidOut before since cs words fault → LaidOut before' since' cs' words fault
lay-same {before} {before'} {since} {since'} {cs} {cs'} {words} {fault} b s c laid =
    subst (λ x. LaidOut before' since' x words fault) c (subst (λ x. LaidOut before' x cs words fault) s (subst (λ x. LaidOut x since cs words fault) b laid))

-- a front of so many characters, the first of them c
front-behind : (c : ℕ) (cs front rest : List ℕ) (n : ℕ) → c ∷ cs ≡ front ++ rest → length front ≡ n → 0 < n → (c ∷ take (n - 1) cs ≡ front) × (drop (n - 1) cs ≡ rest)
front-behind c cs [] rest n whole count some = absurd (omega (arith, count, some))
front-behind c cs (f ∷ fs) rest n whole count some =
    let same : c ≡ f = cc in
    let tail : cs ≡ fs ++ rest = cc in
    let less : length fs ≡ n - 1 = omega (arith, count) in
    (rw (same, tail) (ap (λ x. f ∷ x) (take_at fs rest (n - 1) less)), rw tail (drop_at fs rest (n - 1) less))

-- the layout of what lies behind the first character and so many more
abbrev Behind : List ℕ → List ℕ → ℕ → ℕ → List ℕ → Type 0
Behind before since skip c cs =
    LaidOut ((before ++ c ∷ []) ++ take skip cs) ((since ++ c ∷ []) ++ take skip cs) (drop skip cs)
    (lexed_from skip (past c (place_behind before since)) cs).words (lexed_from skip (past c (place_behind before since)) cs).fault

lay-gap : (before since : List ℕ) (c : ℕ) (cs : List ℕ) (n : ℕ) → CutGap n (c ∷ cs) → 0 < n → Behind before since (n - 1) c cs
    → LaidOut before since (c ∷ cs) (lexed_from (n - 1) (past c (place_behind before since)) cs).words (lexed_from (n - 1) (past c (place_behind before since)) cs).fault
lay-gap before since c cs n cut some behind =
    let f = front-behind c cs cut.gap cut.rest n cut.whole cut.count some in
    let joined : (xs : List ℕ) → (xs ++ c ∷ []) ++ take (n - 1) cs ≡ xs ++ cut.gap = λ xs. append_assoc xs (c ∷ []) (take (n - 1) cs) ∙ ap (λ x. xs ++ x) f.0 in
    lay-same refl refl (sym cut.whole) (gap before since cut.gap cut.rest _ _ cut.is (lay-same (joined before) (joined since) f.1 behind))

lay-word : (before since : List ℕ) (c : ℕ) (cs : List ℕ) (kind : TokenKind) (n : ℕ) → CutToken kind n (c ∷ cs) → 0 < n → Behind before [] (n - 1) c cs
    → (all : Lexed) → all ≡ with_word (place_behind before since) kind (token_text kind n (c ∷ cs)) (lexed_from (n - 1) (past c (place_behind before [])) cs)
    → LaidOut before since (c ∷ cs) all.words all.fault
lay-word before since c cs kind n cut some behind all is = by_long _ refl
  where
    by_long : (b : Bool) → is_long kind (token_text kind n (c ∷ cs)) ≡ b → LaidOut before since (c ∷ cs) all.words all.fault
    by_long true h =
        let long : is_long kind (encode_utf8_all cut.text) ≡ true = ap (is_long kind) (sym cut.text_is) ∙ h in
        subst (λ (x : Lexed). LaidOut before since (c ∷ cs) x.words x.fault) (sym (is ∙ long_word _ kind _ _ h))
        (breaks before since (c ∷ cs) (LongName (length (encode_utf8_all before))) (refl, cut.long long))
    by_long false h =
        let short : is_long kind (encode_utf8_all cut.text) ≡ false = ap (is_long kind) (sym cut.text_is) ∙ h in
        let f = front-behind c cs (written kind cut.text) cut.rest n cut.whole cut.count some in
        let joined : (before ++ c ∷ []) ++ take (n - 1) cs ≡ before ++ written kind cut.text = append_assoc before (c ∷ []) (take (n - 1) cs) ∙ ap (λ x. before ++ x) f.0 in
        let w : Word = record { kind = kind; text = token_text kind n (c ∷ cs); at = length (encode_utf8_all before); column = line_length (reverse before); first = has_line_feed since } in
        subst (λ (x : Lexed). LaidOut before since (c ∷ cs) x.words x.fault) (sym (is ∙ short_word _ kind _ _ h))
        (lay-same refl refl (sym cut.whole)
        (token before since cut.text cut.rest w _ _
        (record { token = cut.short short; text_is = cut.text_is; at_is = refl; column_is = refl; first_is = refl })
        (lay-same joined f.0 f.1 behind)))

lay-piece : (before since : List ℕ) (c : ℕ) (cs : List ℕ) (piece : Piece) → IsCut (length (encode_utf8_all before)) (c ∷ cs) piece → 0 < size piece
    → ((s : List ℕ) → Behind before s (size piece - 1) c cs)
    → (all : Lexed) → all ≡ with_piece (place_behind before since) (c ∷ cs) piece (lexed_from (size piece - 1) (past c (begun piece (place_behind before since))) cs)
    → LaidOut before since (c ∷ cs) all.words all.fault
lay-piece before since c cs (Gap n) cut some behind all is =
    subst (λ (x : Lexed). LaidOut before since (c ∷ cs) x.words x.fault) (sym is) (lay-gap before since c cs n cut some (behind since))
lay-piece before since c cs (Lexeme kind n) cut some behind all is = lay-word before since c cs kind n cut some (behind []) all is
lay-piece before since c cs (Bad fault) cut some behind all is =
    subst (λ (x : Lexed). LaidOut before since (c ∷ cs) x.words x.fault) (sym is) (breaks before since (c ∷ cs) fault cut)

abbrev Laid : ℕ → List ℕ → List ℕ → List ℕ → Type 0
Laid skip before since cs =
    LaidOut (before ++ take skip cs) (since ++ take skip cs) (drop skip cs)
    (lexed_from skip (place_behind before since) cs).words (lexed_from skip (place_behind before since) cs).fault

-- one character on
laid-on : (skip c : ℕ) (before since cs : List ℕ) → Laid skip (before ++ c ∷ []) (since ++ c ∷ []) cs → Behind before since skip c cs
laid-on skip c before since cs laid =
    subst (λ p. LaidOut ((before ++ c ∷ []) ++ take skip cs) ((since ++ c ∷ []) ++ take skip cs) (drop skip cs) (lexed_from skip p cs).words (lexed_from skip p cs).fault)
    (sym (past-place c before since)) laid

lay : (skip : ℕ) (before since cs : List ℕ) → skip ≤ length cs → Laid skip before since cs
lay zero before since [] le = lay-same (sym (append-nil before)) (sym (append-nil since)) refl (ends before since)
lay (suc skip) before since [] le = absurd (omega (arith, le))
lay (suc skip) before since (c ∷ cs) le =
    lay-same (append_assoc before (c ∷ []) (take skip cs)) (append_assoc since (c ∷ []) (take skip cs)) refl
    (laid-on skip c before since cs (lay skip (before ++ c ∷ []) (since ++ c ∷ []) cs (omega (arith, le))))
lay zero before since (c ∷ cs) le =
    let at : ℕ = length (encode_utf8_all before) in
    let sized = piece_at-sized at c cs in
    let rest : size (piece_at at (c ∷ cs)) - 1 ≤ length cs = omega (arith, sized.0, sized.1) in
    lay-same (sym (append-nil before)) (sym (append-nil since)) refl
    (lay-piece before since c cs (piece_at at (c ∷ cs)) (piece-cut at c cs) sized.1
    (λ s. laid-on _ c before s cs (lay (size (piece_at at (c ∷ cs)) - 1) (before ++ c ∷ []) (s ++ c ∷ []) cs rest))
    (lexed_from 0 (place_behind before since) (c ∷ cs)) refl)

pub laid_out : (text : List ℕ) → LaidOut [] (10 ∷ []) (chars text) (lexed text).words (lexed text).fault
laid_out text = lay 0 [] (10 ∷ []) (chars text) (omega arith)
