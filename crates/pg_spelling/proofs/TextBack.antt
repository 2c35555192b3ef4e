-- The tokens of a printed text spell the printed shape.
use Rattle.std.proofs.Common.{◌≡◌, ℕ, zero, suc, ◌+◌, ◌<◌, Bool, true, false, cond, ◌||◌, List, [], ◌∷◌, ◌++◌, length, map, codes, sym, ◌∙◌, ap, refl, subst, arith, append_assoc, append-nil, length-append}
use Rattle.std.specs.Prelude.{Option, Some, None, nat_lt, slice_get}
use Rattle.std.specs.Str.{chars, encode_utf8_all, all_scalars}
use Rattle.std.proofs.lemmas.Bool.{and_parts, false≢true, ltb-true}
use Rattle.std.proofs.lemmas.Str.{chars-encodes, chars-append, chars-nil}
use Rattle.pg_base.specs.declared.token.Sign.TheVariants as sign
use Rattle.pg_base.specs.declared.token.TokenKind.TheVariants as kind
use Rattle.pg_base.specs.Tokens.{Position, start, lexed_from}
use Rattle.pg_base.specs.Layout.{IsToken}
use Rattle.pg_shape.specs.Symbols.{symbol}
use Rattle.pg_logic.specs.Tree.{Tm, free, bound, nought, succ, app, Tms, none, arg, Fm, falsum, eq, pred, and, or, imp, all, ex}
use Rattle.pg_logic.specs.Declarations.{Name, Declarations, name_of, arity_of, signature_of}
use Rattle.pg_logic.specs.Signature.{fits, fits_term, fits_terms, count}
use Rattle.pg_grammar.specs.Shapes.{Op, Implies, Or, And, Equal, NotEqual, LessEqual, Less, Plus, Times, Power, Quantifier, ForAll, Exists, Sign, QuantSign, Binders, Plain, Shape, Named, Numeral, Falsum, Paren, Next, App, Neg, Quant, Binary, spelled, strength, left_min, right_min}
use Rattle.pg_grammar.specs.Printing.{Join, Arrow, Either, Both, Equals, AtMost, Below, Sum, Product, Raised, Tree, Trees, Ended, Also, Call, Number, Never, After, Node, Bind, sign_of, is_quant, operand, joined, negated, node_shape, applied, unplaced, one_name, shape_of, shapes_of}
use Rattle.pg_meaning.specs.Scope.{Scope, outermost}
use Rattle.pg_meaning.specs.Live.{is_named, is_live, are_live, is_live_formula}
use Rattle.pg_spelling.specs.Fresh.{fresh}
use Rattle.pg_spelling.specs.Named.{under, function_names, predicate_names, taken, name_at, live_name, sign_named, begins_with_digit, between, at_arguments, named, named_all, named_formula}
use Rattle.pg_spelling.specs.Written.{op_text, quantifier_text, written}
use Rattle.pg_spelling.specs.Occurring.{EachFunction, EachFunctions, EachSymbol}
use Rattle.pg_spelling.specs.Back.{CanName, CanTell, IsFunctionName, IsPredicateName}
use Rattle.pg_spelling.specs.Placed.{placed}
use Rattle.pg_spelling.specs.TextBack.{IsNumberToken, IsFreeName, Stops, IsDeclaredText, IsFunctionText, IsPredicateText, AreFree, AreBinders, IsTextOf, TermTextLaw, TextLaw}
use Rattle.pg_spelling.proofs.Back.{Declared, declared, of-declared, Told, told, of-told, name-get, named-function, named-predicate, HasRoom, has-room}
use Rattle.pg_spelling.proofs.Lexed.{Goes, goes-then, goes-to, goes-free, goes-number, goes-word, goes-sign, goes-blank, goes-open, goes-close}
use Rattle.pg_spelling.proofs.FreshText.{fresh-name-law}

-- ---- shapes whose names are tokens, each quantifier with one name

abbrev HasTexts : Shape → Type 0
HasTexts (Named x) = IsFreeName x.text
HasTexts (Numeral n) = IsNumberToken n.text
HasTexts (Falsum at) = Unit {0}
HasTexts (Paren at s) = HasTexts s
HasTexts (Next at s) = HasTexts s
HasTexts (App f s) = HasTexts f × HasTexts s
HasTexts (Neg at s) = HasTexts s
HasTexts (Quant at q b s) = ((x : List ℕ) × (IsFreeName x × (b ≡ one_name x))) × HasTexts s
HasTexts (Binary at op l r) = HasTexts l × HasTexts r

-- ---- their characters

abbrev op_letter : Op → ℕ
op_letter Implies = 0x2192
op_letter Or = 0x2228
op_letter And = 0x2227
op_letter Equal = 61
op_letter NotEqual = 0x2260
op_letter LessEqual = 0x2264
op_letter Less = 60
op_letter Plus = 43
op_letter Times = 42
op_letter Power = 94

abbrev quantifier_letter : Quantifier → ℕ
quantifier_letter ForAll = 0x2200
quantifier_letter Exists = 0x2203

abbrev binder_name : Binders → List ℕ
binder_name (Plain g) = g.first.text
binder_name _ = []

-- the characters of a shape's text, and those behind it
abbrev lettered : Shape → List ℕ → List ℕ
lettered (Named x) rest = chars x.text ++ rest
lettered (Numeral n) rest = chars n.text ++ rest
lettered (Falsum at) rest = codes "False" ++ rest
lettered (Paren at s) rest = 40 ∷ lettered s (41 ∷ rest)
lettered (Next at s) rest = codes "succ" ++ 32 ∷ lettered s rest
lettered (App f s) rest = lettered f (32 ∷ lettered s rest)
lettered (Neg at s) rest = 0xac ∷ 32 ∷ lettered s rest
lettered (Quant at q b s) rest = quantifier_letter q ∷ 32 ∷ (chars (binder_name b) ++ 44 ∷ 32 ∷ lettered s rest)
lettered (Binary at op l r) rest = lettered l (32 ∷ op_letter op ∷ 32 ∷ lettered r rest)

front-chars : (cs bytes rest : List ℕ) → all_scalars cs ≡ true → encode_utf8_all cs ≡ bytes → chars (bytes ++ rest) ≡ cs ++ chars rest
front-chars cs bytes rest s e = chars-append bytes rest (cs, (s, e)) ∙ ap (λ x. x ++ chars rest) (ap chars (sym e) ∙ chars-encodes cs s)

blank-chars : (rest : List ℕ) → chars (32 ∷ rest) ≡ 32 ∷ chars rest
unfolding lib.Utf8.encode
blank-chars rest = front-chars (32 ∷ []) (32 ∷ []) rest refl refl

open-chars : (rest : List ℕ) → chars (40 ∷ rest) ≡ 40 ∷ chars rest
unfolding lib.Utf8.encode
open-chars rest = front-chars (40 ∷ []) (40 ∷ []) rest refl refl

close-chars : (rest : List ℕ) → chars (41 ∷ rest) ≡ 41 ∷ chars rest
unfolding lib.Utf8.encode
close-chars rest = front-chars (41 ∷ []) (41 ∷ []) rest refl refl

comma-chars : (rest : List ℕ) → chars (44 ∷ 32 ∷ rest) ≡ 44 ∷ 32 ∷ chars rest
unfolding lib.Utf8.encode
comma-chars rest = front-chars (44 ∷ 32 ∷ []) (44 ∷ 32 ∷ []) rest refl refl

falsum-chars : (rest : List ℕ) → chars (codes "False" ++ rest) ≡ codes "False" ++ chars rest
unfolding lib.Utf8.encode
falsum-chars rest = front-chars (codes "False") (codes "False") rest refl refl

succ-chars : (rest : List ℕ) → chars (codes "succ " ++ rest) ≡ codes "succ " ++ chars rest
unfolding lib.Utf8.encode
succ-chars rest = front-chars (codes "succ ") (codes "succ ") rest refl refl

not-chars : (rest : List ℕ) → chars (194 ∷ 172 ∷ 32 ∷ rest) ≡ 0xac ∷ 32 ∷ chars rest
unfolding lib.Utf8.encode
not-chars rest = front-chars (0xac ∷ 32 ∷ []) (194 ∷ 172 ∷ 32 ∷ []) rest refl refl

op-chars : (op : Op) (rest : List ℕ) → chars (op_text op ++ rest) ≡ op_letter op ∷ chars rest
unfolding lib.Utf8.encode
op-chars Implies rest = front-chars (0x2192 ∷ []) (op_text Implies) rest refl refl
op-chars Or rest = front-chars (0x2228 ∷ []) (op_text Or) rest refl refl
op-chars And rest = front-chars (0x2227 ∷ []) (op_text And) rest refl refl
op-chars Equal rest = front-chars (61 ∷ []) (op_text Equal) rest refl refl
op-chars NotEqual rest = front-chars (0x2260 ∷ []) (op_text NotEqual) rest refl refl
op-chars LessEqual rest = front-chars (0x2264 ∷ []) (op_text LessEqual) rest refl refl
op-chars Less rest = front-chars (60 ∷ []) (op_text Less) rest refl refl
op-chars Plus rest = front-chars (43 ∷ []) (op_text Plus) rest refl refl
op-chars Times rest = front-chars (42 ∷ []) (op_text Times) rest refl refl
op-chars Power rest = front-chars (94 ∷ []) (op_text Power) rest refl refl

quantifier-chars : (q : Quantifier) (rest : List ℕ) → chars (quantifier_text q ++ rest) ≡ quantifier_letter q ∷ chars rest
unfolding lib.Utf8.encode
quantifier-chars ForAll rest = front-chars (0x2200 ∷ []) (quantifier_text ForAll) rest refl refl
quantifier-chars Exists rest = front-chars (0x2203 ∷ []) (quantifier_text Exists) rest refl refl

letters : (s : Shape) → HasTexts s → (rest : List ℕ) → chars (written s ++ rest) ≡ lettered s (chars rest)
letters (Named x) h rest = chars-append x.text rest h.0.0
letters (Numeral n) h rest = chars-append n.text rest h.0
letters (Falsum at) h rest = falsum-chars rest
letters (Paren at s) h rest =
    open-chars ((written s ++ codes ")") ++ rest) ∙ ap (λ x. 40 ∷ chars x) (append_assoc (written s) (codes ")") rest)
    ∙ ap (λ x. 40 ∷ x) (letters s h (codes ")" ++ rest)) ∙ ap (λ x. 40 ∷ lettered s x) (close-chars rest)
letters (Next at s) h rest = succ-chars (written s ++ rest) ∙ ap (λ x. codes "succ " ++ x) (letters s h rest)
letters (App f s) h rest =
    ap chars (append_assoc (written f) (codes " " ++ written s) rest) ∙ letters f h.0 (codes " " ++ (written s ++ rest))
    ∙ ap (lettered f) (blank-chars (written s ++ rest) ∙ ap (λ x. 32 ∷ x) (letters s h.1 rest))
letters (Neg at s) h rest = not-chars (written s ++ rest) ∙ ap (λ x. 0xac ∷ 32 ∷ x) (letters s h rest)
letters (Quant at q b s) h rest = subst (λ x. chars (written (Quant at q x s) ++ rest) ≡ lettered (Quant at q x s) (chars rest)) (sym h.0.1.1) (one h.0.0 h.0.1.0 (letters s h.1 rest))
  where
    one : (x : List ℕ) → IsFreeName x → chars (written s ++ rest) ≡ lettered s (chars rest) → chars (written (Quant at q (one_name x) s) ++ rest) ≡ lettered (Quant at q (one_name x) s) (chars rest)
    one x token body =
        ap chars (append_assoc (quantifier_text q) (32 ∷ ((x ++ []) ++ (44 ∷ 32 ∷ written s))) rest)
        ∙ quantifier-chars q (32 ∷ (((x ++ []) ++ (44 ∷ 32 ∷ written s)) ++ rest))
        ∙ ap (λ y. quantifier_letter q ∷ y) (blank-chars (((x ++ []) ++ (44 ∷ 32 ∷ written s)) ++ rest))
        ∙ ap (λ y. quantifier_letter q ∷ 32 ∷ chars ((y ++ (44 ∷ 32 ∷ written s)) ++ rest)) (append-nil x)
        ∙ ap (λ y. quantifier_letter q ∷ 32 ∷ chars y) (append_assoc x (44 ∷ 32 ∷ written s) rest)
        ∙ ap (λ y. quantifier_letter q ∷ 32 ∷ y) (chars-append x (44 ∷ 32 ∷ (written s ++ rest)) token.0.0)
        ∙ ap (λ y. quantifier_letter q ∷ 32 ∷ (chars x ++ y)) (comma-chars (written s ++ rest) ∙ ap (λ y. 44 ∷ 32 ∷ y) body)
letters (Binary at op l r) h rest =
    ap chars (append_assoc (written l) (32 ∷ (op_text op ++ (32 ∷ written r))) rest)
    ∙ letters l h.0 (32 ∷ ((op_text op ++ (32 ∷ written r)) ++ rest))
    ∙ ap (lettered l)
    (blank-chars ((op_text op ++ (32 ∷ written r)) ++ rest)
    ∙ ap (λ x. 32 ∷ chars x) (append_assoc (op_text op) (32 ∷ written r) rest)
    ∙ ap (λ x. 32 ∷ x) (op-chars op (32 ∷ (written r ++ rest)))
    ∙ ap (λ x. 32 ∷ op_letter op ∷ x) (blank-chars (written r ++ rest) ∙ ap (λ x. 32 ∷ x) (letters r h.1 rest)))

-- ---- their tokens

false-word : IsToken kind.Name (codes "False") []
unfolding lib.Utf8.encode
false-word = ((refl, refl, refl), refl, omega arith, refl)

succ-word : IsToken kind.Name (codes "succ") []
unfolding lib.Utf8.encode
succ-word = ((refl, refl, refl), refl, omega arith, refl)

false-bytes : encode_utf8_all (codes "False") ≡ codes "False"
unfolding lib.Utf8.encode
false-bytes = refl

succ-bytes : encode_utf8_all (codes "succ") ≡ codes "succ"
unfolding lib.Utf8.encode
succ-bytes = refl

goes-op : (op : Op) (p : Position) (at : ℕ) (rest : List ℕ) → p.place ≡ at → Goes p (op_letter op ∷ 32 ∷ rest) (at + length (op_text op)) (Sign at op ∷ []) (32 ∷ rest)
goes-op Implies p at rest e = goes-sign p at sign.Arrow 0x2192 (32 ∷ rest) e refl
goes-op Or p at rest e = goes-sign p at sign.Or 0x2228 (32 ∷ rest) e refl
goes-op And p at rest e = goes-sign p at sign.And 0x2227 (32 ∷ rest) e refl
goes-op Equal p at rest e = goes-sign p at sign.Equal 61 (32 ∷ rest) e refl
goes-op NotEqual p at rest e = goes-sign p at sign.NotEqual 0x2260 (32 ∷ rest) e refl
goes-op LessEqual p at rest e = goes-sign p at sign.LessEqual 0x2264 (32 ∷ rest) e refl
goes-op Less p at rest e = goes-sign p at sign.Less 60 (32 ∷ rest) e refl
goes-op Plus p at rest e = goes-sign p at sign.Plus 43 (32 ∷ rest) e refl
goes-op Times p at rest e = goes-sign p at sign.Star 42 (32 ∷ rest) e refl
goes-op Power p at rest e = goes-sign p at sign.Caret 94 (32 ∷ rest) e refl

goes-quantifier : (q : Quantifier) (p : Position) (at : ℕ) (rest : List ℕ) → p.place ≡ at
    → Goes p (quantifier_letter q ∷ 32 ∷ rest) (at + length (quantifier_text q)) (QuantSign at q ∷ []) (32 ∷ rest)
goes-quantifier ForAll p at rest e = goes-sign p at sign.ForAll 0x2200 (32 ∷ rest) e refl
goes-quantifier Exists p at rest e = goes-sign p at sign.Exists 0x2203 (32 ∷ rest) e refl

goes-shape : (s : Shape) → HasTexts s → (p : Position) (at : ℕ) (rest : List ℕ) → p.place ≡ at → Stops rest → Goes p (lettered s rest) (at + length (written s)) (spelled (placed at s)) rest
goes-shape (Named x) h p at rest e stop = goes-free p at x.text rest e h stop
goes-shape (Numeral n) h p at rest e stop = goes-number p at n.text rest e h stop
goes-shape (Falsum old) h p at rest e stop = goes-word p at (codes "False") rest e false-bytes false-word stop
goes-shape (Paren old s) h p at rest e stop =
    goes-to
    (goes-then (goes-open p at (lettered s (41 ∷ rest)) e)
    (λ q i. goes-then (goes-shape s h q (at + 1) (41 ∷ rest) i refl)
    (λ q i. goes-close q (at + 1 + length (written s)) rest i)))
    (omega (arith, length-append (written s) (codes ")")))
goes-shape (Next old s) h p at rest e stop =
    goes-to
    (goes-then (goes-word p at (codes "succ") (32 ∷ lettered s rest) e succ-bytes succ-word refl)
    (λ q i. goes-then (goes-blank q (at + 4) (lettered s rest) i)
    (λ q i. goes-shape s h q (at + 5) rest (i ∙ four) stop)))
    (omega arith)
  where
    four : at + 4 + 1 ≡ at + 5
    four = omega arith
goes-shape (App f s) h p at rest e stop =
    goes-to
    (goes-then (goes-shape f h.0 p at (32 ∷ lettered s rest) e refl)
    (λ q i. goes-then (goes-blank q (at + length (written f)) (lettered s rest) i)
    (λ q i. goes-shape s h.1 q (at + length (written f) + 1) rest i stop)))
    (omega (arith, length-append (written f) (32 ∷ written s)))
goes-shape (Neg old s) h p at rest e stop =
    goes-to
    (goes-then (goes-sign p at sign.Not 0xac (32 ∷ lettered s rest) e refl)
    (λ q i. goes-then (goes-blank q (at + 2) (lettered s rest) i)
    (λ q i. goes-shape s h q (at + 3) rest (i ∙ two) stop)))
    (omega arith)
  where
    two : at + 2 + 1 ≡ at + 3
    two = omega arith
goes-shape (Quant old q b s) h p at rest e stop =
    subst (λ x. Goes p (lettered (Quant old q x s) rest) (at + length (written (Quant old q x s))) (spelled (placed at (Quant old q x s))) rest) (sym h.0.1.1)
    (one h.0.0 h.0.1.0 (λ r k i. goes-shape s h.1 r k rest i stop))
  where
    one : (x : List ℕ) → IsFreeName x → ((r : Position) (k : ℕ) → r.place ≡ k → Goes r (lettered s rest) (k + length (written s)) (spelled (placed k s)) rest) → Goes p (lettered (Quant old q (one_name x) s) rest) (at + length (written (Quant old q (one_name x) s))) (spelled (placed at (Quant old q (one_name x) s))) rest
    one x token inside =
        let names : ℕ = at + length (quantifier_text q) + 1 in
        let nil : length (x ++ []) ≡ length x = ap length (append-nil x) in
        let body : names + length x + 1 + 1 ≡ names + length (x ++ []) + 2 = omega (arith, nil) in
        let whole : names + length (x ++ []) + 2 + length (written s) ≡ at + length (written (Quant old q (one_name x) s)) =
        omega (arith, length-append (quantifier_text q) (32 ∷ ((x ++ []) ++ (44 ∷ 32 ∷ written s))), length-append (x ++ []) (44 ∷ 32 ∷ written s)) in
        goes-to
        (goes-then (goes-quantifier q p at (chars x ++ 44 ∷ 32 ∷ lettered s rest) e)
        (λ r i. goes-then (goes-blank r (at + length (quantifier_text q)) (chars x ++ 44 ∷ 32 ∷ lettered s rest) i)
        (λ r i. goes-then (goes-free r names x (44 ∷ 32 ∷ lettered s rest) i token refl)
        (λ r i. goes-then (goes-sign r (names + length x) sign.Comma 44 (32 ∷ lettered s rest) i refl)
        (λ r i. goes-then (goes-blank r (names + length x + 1) (lettered s rest) i)
        (λ r i. inside r (names + length (x ++ []) + 2) (i ∙ body)))))))
        whole
goes-shape (Binary old op l r) h p at rest e stop =
    let sign_at : ℕ = at + length (written l) + 1 in
    goes-to
    (goes-then (goes-shape l h.0 p at (32 ∷ op_letter op ∷ 32 ∷ lettered r rest) e refl)
    (λ q i. goes-then (goes-blank q (at + length (written l)) (op_letter op ∷ 32 ∷ lettered r rest) i)
    (λ q i. goes-then (goes-op op q sign_at (lettered r rest) i)
    (λ q i. goes-then (goes-blank q (sign_at + length (op_text op)) (lettered r rest) i)
    (λ q i. goes-shape r h.1 q (sign_at + length (op_text op) + 1) rest i stop)))))
    (omega (arith, length-append (written l) (32 ∷ (op_text op ++ (32 ∷ written r))), length-append (op_text op) (32 ∷ written r)))

pub text-of : (s : Shape) → HasTexts s → IsTextOf s (written s)
text-of s h =
    let all : chars (written s) ≡ lettered s [] = ap chars (sym (append-nil (written s))) ∙ letters s h [] ∙ ap (lettered s) chars-nil in
    let g : Goes start (lettered s []) (0 + length (written s)) (spelled (placed 0 s)) [] = goes-shape s h start 0 [] refl tt in
    record {
      faultless = ap (λ cs. (lexed_from 0 start cs).fault) all ∙ g.fault;
      symbols = ap (λ cs. map symbol (lexed_from 0 start cs).words) all ∙ g.symbols ∙ append-nil (spelled (placed 0 s));
    }

-- ---- the printed shape

held-texts : (b : Bool) (s : Shape) → HasTexts s → HasTexts (cond b (Paren 0 s) s)
held-texts true s h = h
held-texts false s h = h

operand-texts : (min : ℕ) (s : Shape) → HasTexts s → HasTexts (operand min s)
operand-texts min s h = held-texts (is_quant s || nat_lt (strength s) min) s h

joined-texts : (op : Op) (l r : Shape) → HasTexts l → HasTexts r → HasTexts (joined op l r)
joined-texts op l r h k = (operand-texts (left_min op) l h, operand-texts (right_min op) r k)

negated-texts : (s : Shape) → HasTexts s → HasTexts (negated s)
negated-texts (Binary at Equal l r) h = h
negated-texts s h = operand-texts 40 s h

node-texts : (join : Join) (t : Tree) (l r : Shape) → HasTexts l → HasTexts r → HasTexts (node_shape join l t r)
node-texts Arrow Never l r h k = negated-texts l h
node-texts join t l r h k = joined-texts (sign_of join) l r h k

abbrev AllTexts : List Shape → Type 0
AllTexts [] = Unit {0}
AllTexts (s ∷ ss) = HasTexts s × AllTexts ss

applied-texts : (f : Shape) (ss : List Shape) → HasTexts f → AllTexts ss → HasTexts (applied f ss)
applied-texts f [] h k = h
applied-texts f (s ∷ ss) h k = applied-texts (App f (operand 101 s)) ss (h, operand-texts 101 s k.0) k.1

abbrev mutual
  TreeTexts : Tree → Type 0
  TreeTexts (Call f ts) = IsFreeName f × TreesTexts ts
  TreeTexts (Number n) = IsNumberToken n
  TreeTexts Never = Unit {0}
  TreeTexts (After t ts) = TreeTexts t × TreesTexts ts
  TreeTexts (Node join l r) = TreeTexts l × TreeTexts r
  TreeTexts (Bind q x t) = IsFreeName x × TreeTexts t

  TreesTexts : Trees → Type 0
  TreesTexts Ended = Unit {0}
  TreesTexts (Also t ts) = TreeTexts t × TreesTexts ts

mutual
  shape-texts : (t : Tree) → TreeTexts t → HasTexts (shape_of t)
  shape-texts (Call f ts) h = applied-texts (Named (unplaced f)) (shapes_of ts) h.0 (shapes-texts ts h.1)
  shape-texts (Number n) h = h
  shape-texts Never h = tt
  shape-texts (After t ts) h = applied-texts (Next 0 (operand 101 (shape_of t))) (shapes_of ts) (operand-texts 101 (shape_of t) (shape-texts t h.0)) (shapes-texts ts h.1)
  shape-texts (Node join l r) h = node-texts join r (shape_of l) (shape_of r) (shape-texts l h.0) (shape-texts r h.1)
  shape-texts (Bind q x t) h = ((x, (h.0, refl)), shape-texts t h.1)

  shapes-texts : (ts : Trees) → TreesTexts ts → AllTexts (shapes_of ts)
  shapes-texts Ended h = tt
  shapes-texts (Also t ts) h = (shape-texts t h.0, shapes-texts ts h.1)

-- ---- the printed tree

-- the names of a place are texts of tokens
record Ready (s : Scope) : Type 0 where
  binders : (i : ℕ) → i < length s.binders → IsFreeName (name_at s.binders i)
  live : AreFree s.vars

-- a sign has two arguments, a number none
abbrev Suits : Option Join → Bool → ℕ → Type 0
Suits (Some join) numeral n = n ≡ 2
Suits None true n = n ≡ 0
Suits None false n = Unit {0}

name-suits : (o : Option Join) (numeral : Bool) (name : Name) (n : ℕ) → CanName o numeral name n → Suits o numeral n
name-suits None true name n h = h.0
name-suits None false name n h = tt
name-suits (Some Sum) numeral name n h = h
name-suits (Some Product) numeral name n h = h
name-suits (Some Raised) numeral name n h = h
name-suits (Some Arrow) numeral name n h = absurd h
name-suits (Some Either) numeral name n h = absurd h
name-suits (Some Both) numeral name n h = absurd h
name-suits (Some Equals) numeral name n h = absurd h
name-suits (Some AtMost) numeral name n h = absurd h
name-suits (Some Below) numeral name n h = absurd h

tell-suits : (o : Option Join) (numeral : Bool) (n : ℕ) → CanTell o numeral n → Suits o numeral n
tell-suits None true n h = absurd h
tell-suits None false n h = tt
tell-suits (Some AtMost) numeral n h = h
tell-suits (Some Below) numeral n h = h
tell-suits (Some Arrow) numeral n h = absurd h
tell-suits (Some Either) numeral n h = absurd h
tell-suits (Some Both) numeral n h = absurd h
tell-suits (Some Equals) numeral n h = absurd h
tell-suits (Some Sum) numeral n h = absurd h
tell-suits (Some Product) numeral n h = absurd h
tell-suits (Some Raised) numeral n h = absurd h

abbrev how_many : Trees → ℕ
how_many Ended = 0
how_many (Also t ts) = how_many ts + 1

alone-texts : (o : Option Join) (numeral : Bool) (name : Name) → Suits o numeral 0 → IsDeclaredText o numeral name → TreeTexts (cond numeral (Number name) (Call name Ended))
alone-texts None true name can h = h
alone-texts None false name can h = (h, tt)
alone-texts (Some j) numeral name can h = absurd (omega (arith, can))

call-free : (o : Option Join) (numeral : Bool) (name : Name) (n : ℕ) → Suits o numeral n → IsDeclaredText o numeral name → (n ≡ 0 → ⊥) → (n ≡ 2 → ⊥) → IsFreeName name
call-free None true name n can h some other = absurd (some can)
call-free None false name n can h some other = h
call-free (Some j) numeral name n can h some other = absurd (other can)

between-texts : (o : Option Join) (numeral : Bool) (name : Name) (a b : Tree) → Suits o numeral 2 → IsDeclaredText o numeral name → TreeTexts a → TreeTexts b → TreeTexts (between o name a b)
between-texts None true name a b can h k l = absurd (omega (arith, can))
between-texts None false name a b can h k l = (h, (k, (l, tt)))
between-texts (Some j) numeral name a b can h k l = (k, l)

at-texts : (name : Name) (ts : Trees) → Suits (sign_named name) (begins_with_digit name) (how_many ts) → IsDeclaredText (sign_named name) (begins_with_digit name) name → TreesTexts ts → TreeTexts (at_arguments name ts)
at-texts name Ended can h k = alone-texts (sign_named name) (begins_with_digit name) name can h
at-texts name (Also a Ended) can h k = (call-free (sign_named name) (begins_with_digit name) name 1 can h (λ e. omega (arith, e)) (λ e. omega (arith, e)), k)
at-texts name (Also a (Also b Ended)) can h k = between-texts (sign_named name) (begins_with_digit name) name a b can h k.0 k.1.0
at-texts name (Also a (Also b (Also c ts))) can h k =
    (call-free (sign_named name) (begins_with_digit name) name (how_many ts + 1 + 1 + 1) can h (λ e. omega (arith, e)) (λ e. omega (arith, e)), k)

count-named : (s : Scope) (ts : Tms) → how_many (named_all s ts) ≡ count ts
count-named s none = refl
count-named s (arg t ts) = ap (λ n. n + 1) (count-named s ts)

zero-token : IsNumberToken (codes "0")
unfolding lib.Utf8.encode
zero-token = ((codes "0", (refl, refl)), subst (λ cs. IsToken kind.Number cs []) (sym (chars-encodes (codes "0") refl)) ((omega arith, refl), refl, omega arith))

free-texts : (s : Scope) → Ready s → (i : ℕ) (o : Option (Option Name)) → slice_get s.vars i ≡ o → is_named o ≡ true → IsFreeName (live_name o)
free-texts s r i None e h = absurd (false≢true h)
free-texts s r i (Some None) e h = absurd (false≢true h)
free-texts s r i (Some (Some x)) e h = r.live i x e

function-texts : (s : Scope) (f : ℕ) (ts : Tms) → (d : Declared s.declared f (count ts)) → IsFunctionName d.one → IsFunctionText d.one → TreesTexts (named_all s ts) → TreeTexts (at_arguments (name_at (function_names s.declared) f) (named_all s ts))
function-texts s f ts d allowed text each =
    let one : Name = name_of d.one in
    let x : name_at (function_names s.declared) f ≡ one = name-get (function_names s.declared) f one (named-function s f d.one d.is) in
    let can : Suits (sign_named one) (begins_with_digit one) (arity_of d.one) = name-suits (sign_named one) (begins_with_digit one) one (arity_of d.one) allowed in
    subst (λ y. TreeTexts (at_arguments y (named_all s ts))) (sym x)
    (at-texts one (named_all s ts) (subst (Suits (sign_named one) (begins_with_digit one)) (d.arity ∙ sym (count-named s ts)) can) text each)

predicate-texts : (s : Scope) (p : ℕ) (ts : Tms) → (d : Told s.declared p (count ts)) → IsPredicateName d.one → IsPredicateText d.one → TreesTexts (named_all s ts) → TreeTexts (at_arguments (name_at (predicate_names s.declared) p) (named_all s ts))
predicate-texts s p ts d allowed text each =
    let one : Name = d.one.name in
    let x : name_at (predicate_names s.declared) p ≡ one = name-get (predicate_names s.declared) p one (named-predicate s p d.one d.is) in
    let can : Suits (sign_named one) (begins_with_digit one) d.one.arity = tell-suits (sign_named one) (begins_with_digit one) d.one.arity allowed in
    subst (λ y. TreeTexts (at_arguments y (named_all s ts))) (sym x)
    (at-texts one (named_all s ts) (subst (Suits (sign_named one) (begins_with_digit one)) (d.arity ∙ sym (count-named s ts)) can) text each)

mutual
  term-texts : (s : Scope) → Ready s → (n : ℕ) (t : Tm) → fits_term (signature_of s.declared).functions n (length s.binders) t ≡ true → is_live s.vars t ≡ true → EachFunction IsFunctionName s.declared t → EachFunction IsFunctionText s.declared t
      → TreeTexts (named s t)
  term-texts s r n (free i) h l k e = (free-texts s r i (slice_get s.vars i) refl l, tt)
  term-texts s r n (bound i) h l k e = (r.binders i (ltb-true _ _ h), tt)
  term-texts s r n nought h l k e = zero-token
  term-texts s r n (succ t) h l k e = (term-texts s r n t h l k e, tt)
  term-texts s r n (app f ts) h l k e =
      let p = and_parts _ _ h in
      let d : Declared s.declared f (count ts) = declared s.declared f (count ts) p.0 in
      function-texts s f ts d (of-declared IsFunctionName d k.0) (of-declared IsFunctionText d e.0) (terms-texts s r n ts p.1 l k.1 e.1)

  terms-texts : (s : Scope) → Ready s → (n : ℕ) (ts : Tms) → fits_terms (signature_of s.declared).functions n (length s.binders) ts ≡ true → are_live s.vars ts ≡ true → EachFunctions IsFunctionName s.declared ts → EachFunctions IsFunctionText s.declared ts
      → TreesTexts (named_all s ts)
  terms-texts s r n none h l k e = tt
  terms-texts s r n (arg t ts) h l k e =
      let p = and_parts _ _ h in
      let q = and_parts _ _ l in
      (term-texts s r n t p.0 q.0 k.0 e.0, terms-texts s r n ts p.1 q.1 k.1 e.1)

below : (s : Scope) (y : Name) → Ready s → IsFreeName y → Ready (under y s)
below s y r token = record { binders = λ i lt. at i lt; live = r.live }
  where
    at : (i : ℕ) → i < length (y ∷ s.binders) → IsFreeName (name_at (y ∷ s.binders) i)
    at zero lt = token
    at (suc i) lt = r.binders i (omega (arith, lt))

deeper : (s : Scope) (n : ℕ) (a : Fm) → fits (signature_of s.declared) n (length s.binders + 1) a ≡ true → fits (signature_of s.declared) n (suc (length s.binders)) a ≡ true
deeper s n a e = let k : length s.binders + 1 ≡ suc (length s.binders) = omega arith in ap (λ d. fits (signature_of s.declared) n d a) (sym k) ∙ e

formula-texts : (s : Scope) → Ready s → (n : ℕ) (a : Fm) → fits (signature_of s.declared) n (length s.binders) a ≡ true → is_live_formula s.vars a ≡ true → HasRoom s a → AreBinders s a → EachSymbol IsFunctionName IsPredicateName s.declared a → EachSymbol IsFunctionText IsPredicateText s.declared a
    → TreeTexts (named_formula s a)
formula-texts s r n falsum h l room b k e = tt
formula-texts s r n (eq t u) h l room b k e =
    let p = and_parts _ _ h in
    let q = and_parts _ _ l in
    (term-texts s r n t p.0 q.0 k.0 e.0, term-texts s r n u p.1 q.1 k.1 e.1)
formula-texts s r n (pred p ts) h l room b k e =
    let q = and_parts _ _ h in
    let d : Told s.declared p (count ts) = told s.declared p (count ts) q.0 in
    predicate-texts s p ts d (of-told IsPredicateName d k.0) (of-told IsPredicateText d e.0) (terms-texts s r n ts q.1 l k.1 e.1)
formula-texts s r n (and c d) h l room b k e =
    let p = and_parts _ _ h in
    let q = and_parts _ _ l in
    (formula-texts s r n c p.0 q.0 room.0 b.0 k.0 e.0, formula-texts s r n d p.1 q.1 room.1 b.1 k.1 e.1)
formula-texts s r n (or c d) h l room b k e =
    let p = and_parts _ _ h in
    let q = and_parts _ _ l in
    (formula-texts s r n c p.0 q.0 room.0 b.0 k.0 e.0, formula-texts s r n d p.1 q.1 room.1 b.1 k.1 e.1)
formula-texts s r n (imp c d) h l room b k e =
    let p = and_parts _ _ h in
    let q = and_parts _ _ l in
    (formula-texts s r n c p.0 q.0 room.0 b.0 k.0 e.0, formula-texts s r n d p.1 q.1 room.1 b.1 k.1 e.1)
formula-texts s r n (all x a) h l room b k e =
    let y : Name = fresh (taken s) x in
    let token : IsFreeName y = fresh-name-law (taken s) x room.0 b.0 b.1 in
    (token, formula-texts (under y s) (below s y r token) n a (deeper s n a h) l room.1 b.2 k e)
formula-texts s r n (ex x a) h l room b k e =
    let y : Name = fresh (taken s) x in
    let token : IsFreeName y = fresh-name-law (taken s) x room.0 b.0 b.1 in
    (token, formula-texts (under y s) (below s y r token) n a (deeper s n a h) l room.1 b.2 k e)

-- ---- the laws

outer : (vars : List (Option Name)) (d : Declarations) → AreFree vars → Ready (outermost vars d)
outer vars d h = record { binders = λ i lt. absurd (omega (arith, lt)); live = h }

pub term-text-law : TermTextLaw
term-text-law vars d t c =
    let s : Scope = outermost vars d in
    text-of (shape_of (named s t)) (shape-texts (named s t) (term-texts s (outer vars d c.live) (length vars) t c.reads.fitting c.reads.living c.reads.named c.texts))

pub text-law : TextLaw
text-law vars d a c =
    let s : Scope = outermost vars d in
    text-of (shape_of (named_formula s a))
    (shape-texts (named_formula s a) (formula-texts s (outer vars d c.live) (length vars) a c.reads.fitting c.reads.living (has-room s a c.reads.small) c.binders c.reads.named c.texts))
