-- Texts and their readings, computed. Each symbol stands at its number in the text.
use Rattle.std.proofs.Common.{◌≡◌, ℕ, List, [], ◌∷◌, refl}
use Rattle.pg_grammar.specs.Shapes.{Implies, And, Equal, Plus, Times, Power, ForAll, Exists, Word, Sym, Name, Number, FalseWord, SuccWord, Sign, NotSign, QuantSign, Open, Close, Comma, Colon, NatSign, Other, Group, Bracket, Plain, Typed, Grouped, Shape, Named, Numeral, Falsum, Paren, Next, App, Neg, Quant, Binary}
use Rattle.pg_grammar.specs.Faults.{Limits, Read, Refused, Expected, Deep, Long, Found, Lost}
use Rattle.pg_grammar.specs.Machine.{read, read_part}

abbrev wide : Limits
wide = record { nesting = 100; tokens = 8192 }

-- the name that stands there
abbrev w : ℕ → Word
w at = record { at = at; text = 97 ∷ [] }

abbrev n : ℕ → Sym
n at = Name (w at)

abbrev v : ℕ → Shape
v at = Named (w at)

abbrev g : ℕ → List Word → Group
g at others = record { first = w at; others = others }

abbrev b : ℕ → Group → Bracket
b at names = record { at = at; names = names }

-- a = a = a has two signs that stand alone
twice : read wide (n 0 ∷ Sign 1 Equal ∷ n 2 ∷ Sign 3 Equal ∷ n 4 ∷ []) ≡ Refused Expected (Sign 3 Equal ∷ n 4 ∷ [])
twice = refl

-- → and ^ go to the right, + to the left, and * is stronger than +
rightwards : read wide (n 0 ∷ Sign 1 Implies ∷ n 2 ∷ Sign 3 Implies ∷ n 4 ∷ []) ≡ Read (Binary 1 Implies (v 0) (Binary 3 Implies (v 2) (v 4)))
rightwards = refl

powers : read wide (n 0 ∷ Sign 1 Power ∷ n 2 ∷ Sign 3 Power ∷ n 4 ∷ []) ≡ Read (Binary 1 Power (v 0) (Binary 3 Power (v 2) (v 4)))
powers = refl

leftwards : read wide (n 0 ∷ Sign 1 Plus ∷ n 2 ∷ Sign 3 Plus ∷ n 4 ∷ Sign 5 Times ∷ n 6 ∷ [])
    ≡ Read (Binary 3 Plus (Binary 1 Plus (v 0) (v 2)) (Binary 5 Times (v 4) (v 6)))
leftwards = refl

-- ¬ a = a ∧ a, with a (a) 1 False for the first a
strengths : read wide (NotSign 0 ∷ n 1 ∷ Open 2 ∷ n 3 ∷ Close ∷ Number (w 5) ∷ FalseWord 6 ∷ Sign 7 Equal ∷ n 8 ∷ Sign 9 And ∷ n 10 ∷ [])
    ≡ Read (Binary 9 And (Neg 0 (Binary 7 Equal (App (App (App (v 1) (Paren 2 (v 3))) (Numeral (w 5))) (Falsum 6)) (v 8))) (v 10))
strengths = refl

-- succ wants an atom, a number and a parenthesis take no argument, and ¬ is weaker than +
bare : read wide (SuccWord 0 ∷ Sign 1 Plus ∷ n 2 ∷ []) ≡ Refused Expected (Sign 1 Plus ∷ n 2 ∷ [])
bare = refl

two : read wide (SuccWord 0 ∷ n 1 ∷ n 2 ∷ []) ≡ Read (App (Next 0 (v 1)) (v 2))
two = refl

argument : read wide (n 0 ∷ SuccWord 1 ∷ n 2 ∷ []) ≡ Refused Expected (SuccWord 1 ∷ n 2 ∷ [])
argument = refl

number : read wide (Number (w 0) ∷ n 1 ∷ []) ≡ Refused Expected (n 1 ∷ [])
number = refl

group : read wide (Open 0 ∷ n 1 ∷ Close ∷ n 3 ∷ []) ≡ Refused Expected (n 3 ∷ [])
group = refl

weak : read wide (n 0 ∷ Sign 1 Plus ∷ NotSign 2 ∷ n 3 ∷ []) ≡ Refused Expected (NotSign 2 ∷ n 3 ∷ [])
weak = refl

-- parentheses, and other tokens
unclosed : read wide (Open 0 ∷ n 1 ∷ []) ≡ Refused Expected []
unclosed = refl

unopened : read wide (n 0 ∷ Close ∷ []) ≡ Refused Expected (Close ∷ [])
unopened = refl

nothing : read wide [] ≡ Refused Expected []
nothing = refl

stranger : read wide (n 0 ∷ Sign 1 And ∷ Other ∷ []) ≡ Refused Expected (Other ∷ [])
stranger = refl

-- A quantifier reaches as far right as it can, and is no left operand but in parentheses.
reach : read wide (n 0 ∷ Sign 1 And ∷ QuantSign 2 ForAll ∷ n 3 ∷ n 4 ∷ Comma ∷ n 6 ∷ Sign 7 Implies ∷ n 8 ∷ [])
    ≡ Read (Binary 1 And (v 0) (Quant 2 ForAll (Plain (g 3 (w 4 ∷ []))) (Binary 7 Implies (v 6) (v 8))))
reach = refl

held : read wide (Open 0 ∷ QuantSign 1 Exists ∷ n 2 ∷ Colon ∷ NatSign ∷ Comma ∷ n 6 ∷ Close ∷ Sign 8 And ∷ n 9 ∷ [])
    ≡ Read (Binary 8 And (Paren 0 (Quant 1 Exists (Typed (g 2 [])) (v 6))) (v 9))
held = refl

groups : read wide (QuantSign 0 ForAll ∷ Open 1 ∷ n 2 ∷ n 3 ∷ Colon ∷ NatSign ∷ Close ∷ Open 7 ∷ n 8 ∷ Colon ∷ NatSign ∷ Close ∷ Comma ∷ n 13 ∷ [])
    ≡ Read (Quant 0 ForAll (Grouped (b 1 (g 2 (w 3 ∷ [])) ∷ []) (b 7 (g 8 []))) (v 13))
groups = refl

nameless : read wide (QuantSign 0 ForAll ∷ Comma ∷ []) ≡ Refused Expected (Comma ∷ [])
nameless = refl

untyped : read wide (QuantSign 0 ForAll ∷ Open 1 ∷ n 2 ∷ Close ∷ []) ≡ Refused Expected (Close ∷ [])
untyped = refl

mixed : read wide (QuantSign 0 ForAll ∷ n 1 ∷ Open 2 ∷ []) ≡ Refused Expected (Open 2 ∷ [])
mixed = refl

-- Parentheses, ¬ and quantifiers hold what follows them, and a quantifier its names and its comma.
nested : read (record { nesting = 1; tokens = 9 }) (NotSign 0 ∷ NotSign 1 ∷ Open 2 ∷ n 3 ∷ []) ≡ Refused Deep (Open 2 ∷ n 3 ∷ [])
nested = refl

nested_names : read (record { nesting = 1; tokens = 9 }) (QuantSign 0 ForAll ∷ n 1 ∷ n 2 ∷ Comma ∷ QuantSign 4 ForAll ∷ n 5 ∷ []) ≡ Refused Deep (n 5 ∷ [])
nested_names = refl

nested_group : read (record { nesting = 1; tokens = 9 }) (QuantSign 0 ForAll ∷ Open 1 ∷ n 2 ∷ []) ≡ Refused Deep (n 2 ∷ [])
nested_group = refl

nested_right : read (record { nesting = 1; tokens = 9 }) (n 0 ∷ Sign 1 Implies ∷ n 2 ∷ Sign 3 Implies ∷ n 4 ∷ []) ≡ Refused Deep (n 4 ∷ [])
nested_right = refl

-- left operands, arguments, and right operands of = and + are held by nothing
not_nested : read (record { nesting = 0; tokens = 9 }) (n 0 ∷ Sign 1 Plus ∷ n 2 ∷ Sign 3 Times ∷ n 4 ∷ n 5 ∷ Sign 6 Equal ∷ SuccWord 7 ∷ n 8 ∷ [])
    ≡ Read (Binary 6 Equal (Binary 1 Plus (v 0) (Binary 3 Times (v 2) (App (v 4) (v 5)))) (Next 7 (v 8)))
not_nested = refl

-- one symbol too many; at one symbol Expected comes before Deep before Long
long : read (record { nesting = 9; tokens = 3 }) (n 0 ∷ Sign 1 Plus ∷ n 2 ∷ Sign 3 Plus ∷ []) ≡ Refused Long (Sign 3 Plus ∷ [])
long = refl

expected_first : read (record { nesting = 9; tokens = 3 }) (n 0 ∷ Sign 1 Plus ∷ n 2 ∷ Close ∷ []) ≡ Refused Expected (Close ∷ [])
expected_first = refl

deep_first : read (record { nesting = 0; tokens = 2 }) (n 0 ∷ Sign 1 And ∷ n 2 ∷ []) ≡ Refused Deep (n 2 ∷ [])
deep_first = refl

-- at the front of a longer text
front : read_part wide (n 0 ∷ Sign 1 Equal ∷ n 2 ∷ Close ∷ n 4 ∷ []) ≡ Found (Binary 1 Equal (v 0) (v 2)) (Close ∷ n 4 ∷ [])
front = refl

lost : read_part wide (n 0 ∷ Sign 1 Equal ∷ Close ∷ []) ≡ Lost Expected (Close ∷ [])
lost = refl
