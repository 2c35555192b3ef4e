-- What is known of a shape that was read from tokens: its names are texts, and it is small.
use Rattle.std.proofs.Common.{◌≡◌, ◌≢◌, ℕ, ◌+◌, ◌*◌, ◌≤◌, ◌<◌, Bool, true, false, List, [], ◌∷◌, ◌++◌, length, map, All, refl, ap, ◌∙◌, sym, subst, arith, length-append, append-nil, append_assoc, Result, Ok, Err, IfOk, ◌^◌}
use Rattle.std.specs.Str.{bytes_eq, chars}
use Rattle.std.specs.Prelude.{codes, if◌then◌else◌}
use Rattle.std.proofs.lemmas.List.Elements.{All-head, All-tail}
use Rattle.pg_base.specs.Tokens.{Word as Lexeme}
use Rattle.pg_base.specs.Spans.{IsTokenText}
use Rattle.pg_base.specs.Reserved.{is_reserved}
use Rattle.pg_base.specs.declared.token.Sign.{Sign}
use Rattle.pg_base.specs.declared.token.Sign.TheVariants as sign
use Rattle.pg_base.specs.declared.token.TokenKind.{TokenKind}
use Rattle.pg_base.specs.declared.token.TokenKind.TheVariants as kind
use Rattle.pg_grammar.specs.Shapes.{Sym, Name, Number, FalseWord, SuccWord, Sign as SignSym, NotSign, QuantSign, Open, Close, Comma, Colon, NatSign, Other, Word, Group, Bracket, Binders, Plain, Typed, Grouped, names, plain, typed, bracketed, all_bracketed, binders, Shape, Named, Numeral, Falsum, Paren, Next, App, Neg, Quant, Binary, spelled, IsShape}
use Rattle.pg_grammar.specs.Printing.{group_words, bracket_words, binder_words}
use Rattle.pg_shape.specs.Symbols.{symbol, name_symbol, sign_symbol, kind_symbol}
use Rattle.pg_shape.specs.View.{shape}
use Rattle.pg_shape.specs.Answers.{IsRight}
use Rattle.pg_shape.specs.declared.shape.Shape.{Shape as RustShape}
use Rattle.pg_shape.specs.declared.fault.ShapeFault.{ShapeFault}
use Rattle.pg_syntax.specs.Steps.{nodes, AreTexts, IsReadable}
use Rattle.pg_syntax.proofs.Texts.{are_texts_left, are_texts_right}

-- the name that a symbol is, and those among symbols
abbrev name_in : Sym → List Word
name_in (Name x) = x ∷ []
name_in _ = []

abbrev names_in : List Sym → List Word
names_in [] = []
names_in (sym ∷ syms) = name_in sym ++ names_in syms

names_in-append : (xs ys : List Sym) → names_in (xs ++ ys) ≡ names_in xs ++ names_in ys
names_in-append [] ys = refl
names_in-append (x ∷ xs) ys = ap (λ l. name_in x ++ l) (names_in-append xs ys) ∙ sym (append_assoc (name_in x) (names_in xs) (names_in ys))

-- ---- the names of a quantifier are among its symbols

in-names : (xs : List Word) → names_in (names xs) ≡ xs
in-names [] = refl
in-names (x ∷ xs) = ap (λ l. x ∷ l) (in-names xs)

in-plain : (g : Group) → names_in (plain g) ≡ group_words g
in-plain g = ap (λ l. g.first ∷ l) (in-names g.others)

in-typed : (g : Group) → names_in (typed g) ≡ group_words g
in-typed g = names_in-append (plain g) _ ∙ append-nil (names_in (plain g)) ∙ in-plain g

in-bracketed : (b : Bracket) → names_in (bracketed b) ≡ group_words b.names
in-bracketed b = names_in-append (typed b.names) _ ∙ append-nil (names_in (typed b.names)) ∙ in-typed b.names

in-all_bracketed : (bs : List Bracket) → names_in (all_bracketed bs) ≡ bracket_words bs
in-all_bracketed [] = refl
in-all_bracketed (b ∷ bs) =
    names_in-append (bracketed b) (all_bracketed bs) ∙ ap (λ l. l ++ names_in (all_bracketed bs)) (in-bracketed b) ∙ ap (λ l. group_words b.names ++ l) (in-all_bracketed bs)

in-binders : (b : Binders) → names_in (binders b) ≡ binder_words b
in-binders (Plain g) = in-plain g
in-binders (Typed g) = in-typed g
in-binders (Grouped bs b) =
    names_in-append (all_bracketed bs) (bracketed b) ∙ ap (λ l. l ++ names_in (bracketed b)) (in-all_bracketed bs) ∙ ap (λ l. bracket_words bs ++ l) (in-bracketed b)

-- ---- a shape whose symbols have texts

left-texts : (xs ys : List Sym) → AreTexts (names_in (xs ++ ys)) → AreTexts (names_in xs)
left-texts xs ys h = are_texts_left (names_in xs) (names_in ys) (subst AreTexts (names_in-append xs ys) h)

right-texts : (xs ys : List Sym) → AreTexts (names_in (xs ++ ys)) → AreTexts (names_in ys)
right-texts xs ys h = are_texts_right (names_in xs) (names_in ys) (subst AreTexts (names_in-append xs ys) h)

readable-shape : (s : Shape) → IsShape s → AreTexts (names_in (spelled s)) → IsReadable s
readable-shape (Named x) i h = tt
readable-shape (Numeral n) i h = tt
readable-shape (Falsum at) i h = tt
readable-shape (Paren at s) i h = readable-shape s i (left-texts (spelled s) _ h)
readable-shape (Next at s) i h = readable-shape s i.1 h
readable-shape (App f s) i h = (i.0, readable-shape f i.2 (left-texts (spelled f) (spelled s) h), readable-shape s i.3 (right-texts (spelled f) (spelled s) h))
readable-shape (Neg at s) i h = readable-shape s i.1 h
readable-shape (Quant at q b s) i h = (subst AreTexts (in-binders b) (left-texts (binders b) _ h), readable-shape s i (right-texts (binders b) _ h))
readable-shape (Binary at op l r) i h = (readable-shape l i.2 (left-texts (spelled l) _ h), readable-shape r i.3 (right-texts (spelled l) _ h))

-- ---- its size

few-names : (syms : List Sym) → length (names_in syms) ≤ length syms
few-names [] = omega arith
few-names (sym ∷ syms) = omega (arith, one sym, few-names syms, length-append (name_in sym) (names_in syms))
  where
    one : (sym : Sym) → length (name_in sym) ≤ 1
    one sym = by_cases sym
      where
        by_cases : (sym : Sym) → length (name_in sym) ≤ 1
        by_cases (Name x) = omega arith
        by_cases (Number x) = omega arith
        by_cases (FalseWord at) = omega arith
        by_cases (SuccWord at) = omega arith
        by_cases (SignSym at op) = omega arith
        by_cases (NotSign at) = omega arith
        by_cases (QuantSign at q) = omega arith
        by_cases (Open at) = omega arith
        by_cases Close = omega arith
        by_cases Comma = omega arith
        by_cases Colon = omega arith
        by_cases NatSign = omega arith
        by_cases Other = omega arith

nodes-few : (s : Shape) → nodes s + 1 ≤ 2 * length (spelled s)
nodes-few (Named x) = omega arith
nodes-few (Numeral n) = omega arith
nodes-few (Falsum at) = omega arith
nodes-few (Paren at s) = omega (arith, nodes-few s, length-append (spelled s) (Close ∷ []))
nodes-few (Next at s) = omega (arith, nodes-few s)
nodes-few (App f s) = omega (arith, nodes-few f, nodes-few s, length-append (spelled f) (spelled s))
nodes-few (Neg at s) = omega (arith, nodes-few s)
nodes-few (Quant at q b s) = omega (arith, nodes-few s, few-names (binders b), ap length (in-binders b), length-append (binders b) (Comma ∷ spelled s))
nodes-few (Binary at op l r) = omega (arith, nodes-few l, nodes-few r, length-append (spelled l) (SignSym at op ∷ spelled r))

-- ---- tokens

sign-nameless : (at : ℕ) (s : Sign) → name_in (sign_symbol at s) ≡ []
sign-nameless at sign.OpenParen = refl
sign-nameless at sign.CloseParen = refl
sign-nameless at sign.OpenBracket = refl
sign-nameless at sign.CloseBracket = refl
sign-nameless at sign.Comma = refl
sign-nameless at sign.Semicolon = refl
sign-nameless at sign.Colon = refl
sign-nameless at sign.Assign = refl
sign-nameless at sign.Bar = refl
sign-nameless at sign.Plus = refl
sign-nameless at sign.Star = refl
sign-nameless at sign.Caret = refl
sign-nameless at sign.Equal = refl
sign-nameless at sign.NotEqual = refl
sign-nameless at sign.LessEqual = refl
sign-nameless at sign.Less = refl
sign-nameless at sign.And = refl
sign-nameless at sign.Or = refl
sign-nameless at sign.Arrow = refl
sign-nameless at sign.LeftArrow = refl
sign-nameless at sign.Not = refl
sign-nameless at sign.ForAll = refl
sign-nameless at sign.Exists = refl
sign-nameless at sign.Nat = refl
sign-nameless at sign.Bullet = refl

either-name : (b : Bool) (x y : Sym) → AreTexts (name_in x) → AreTexts (name_in y) → AreTexts (name_in (if b then x else y))
either-name true x y h k = h
either-name false x y h k = k

name-text : (at : ℕ) (text : List ℕ) → text ≢ [] → AreTexts (name_in (name_symbol at text))
name-text at text h =
    let name : Sym = Name (record { at = at; text = text }) in
    let others : Sym = if is_reserved text then Other else name in
    let falsum : Sym = if bytes_eq text (codes "False") then FalseWord at else others in
    either-name (bytes_eq text (codes "succ")) (SuccWord at) falsum tt
    (either-name (bytes_eq text (codes "False")) (FalseWord at) others tt
    (either-name (is_reserved text) Other name tt (h, tt)))

not-empty : (text : List ℕ) → IsTokenText kind.Name text → text ≢ []
unfolding chars
not-empty [] h e = absurd cc
not-empty (c ∷ cs) h e = absurd cc

token-text : (k : TokenKind) (at : ℕ) (text : List ℕ) → IsTokenText k text → AreTexts (name_in (kind_symbol k at text))
token-text kind.Name at text h = name-text at text (not-empty text h)
token-text kind.Number at text h = tt
token-text kind.Text at text h = tt
token-text (kind.Sign s) at text h = subst AreTexts (sym (sign-nameless at s)) tt

both-texts : (xs ys : List Word) → AreTexts xs → AreTexts ys → AreTexts (xs ++ ys)
both-texts [] ys h k = k
both-texts (x ∷ xs) ys h k = (h.0, both-texts xs ys h.1 k)

abbrev IsText : Lexeme → Type 0
IsText w = IsTokenText w.kind w.text

tokens-texts : (words : List Lexeme) → All IsText words → AreTexts (names_in (map symbol words))
tokens-texts [] h = tt
tokens-texts (w ∷ words) h =
    both-texts (name_in (symbol w)) (names_in (map symbol words)) (token-text w.kind w.at w.text (All-head IsText w words h)) (tokens-texts words (All-tail IsText w words h))

-- ---- what was read

pub readable : (end : ℕ) (words : List Lexeme) (result : Result RustShape ShapeFault) → All (λ (w : Lexeme). IsTokenText w.kind w.text) words → IsRight end words result → IfOk result (λ s. IsReadable (shape s))
readable end words (Err e) h r = tt
readable end words (Ok s) h r = readable-shape (shape s) r.0.0 (subst (λ syms. AreTexts (names_in syms)) (sym r.0.1) (tokens-texts words h))

pub small : (end : ℕ) (words : List Lexeme) (result : Result RustShape ShapeFault) → IsRight end words result → IfOk result (λ s. nodes (shape s) < 2 ^ 16)
small end words (Err e) r = tt
small end words (Ok s) r = omega (arith, nodes-few (shape s), ap length r.0.1, r.1.few)
