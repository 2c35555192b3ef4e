-- Trees with named binders, what a shape means, and the shape that a tree is printed as.
use Rattle.std.specs.Prelude.{ℕ, Bool, true, false, ◌||◌, if◌then◌else◌, nat_lt, List, [], ◌∷◌, ◌++◌}
use Rattle.pg_grammar.specs.Shapes.{Op, Implies, Or, And, Equal, NotEqual, LessEqual, Less, Plus, Times, Power, Quantifier, Word, left_min, right_min, Group, Bracket, Binders, Plain, Typed, Grouped, Shape, Named, Numeral, Falsum, Paren, Next, App, Neg, Quant, Binary, strength}

-- ---- trees

-- the signs that a tree has: a ≠ b is none of them
pub data Join : Type 0 where
  Arrow : Join
  Either : Join
  Both : Join
  Equals : Join
  AtMost : Join
  Below : Join
  Sum : Join
  Product : Join
  Raised : Join

-- A name or `succ` at its arguments, of which `succ` has one at least.
mutual
  pub data Tree : Type 0 where
    Call : List ℕ → Trees → Tree
    Number : List ℕ → Tree
    Never : Tree
    After : Tree → Trees → Tree
    Node : Join → Tree → Tree → Tree
    Bind : Quantifier → List ℕ → Tree → Tree

  pub data Trees : Type 0 where
    Ended : Trees
    Also : Tree → Trees → Trees

abbrev pub chain : Trees → Trees → Trees
chain Ended more = more
chain (Also t ts) more = Also t (chain ts more)

abbrev pub denied : Tree → Tree
denied t = Node Arrow t Never

-- ---- the meaning of a shape

-- one argument more
abbrev pub with_arg : Tree → Tree → Tree
with_arg (Call f ts) t = Call f (chain ts (Also t Ended))
with_arg (After s ts) t = After s (chain ts (Also t Ended))
with_arg other t = other

abbrev pub joined_by : Op → Tree → Tree → Tree
joined_by Implies l r = Node Arrow l r
joined_by Or l r = Node Either l r
joined_by And l r = Node Both l r
joined_by Equal l r = Node Equals l r
joined_by NotEqual l r = denied (Node Equals l r)
joined_by LessEqual l r = Node AtMost l r
joined_by Less l r = Node Below l r
joined_by Plus l r = Node Sum l r
joined_by Times l r = Node Product l r
joined_by Power l r = Node Raised l r

abbrev pub group_words : Group → List Word
group_words g = g.first ∷ g.others

abbrev pub bracket_words : List Bracket → List Word
bracket_words [] = []
bracket_words (b ∷ bs) = group_words b.names ++ bracket_words bs

abbrev pub binder_words : Binders → List Word
binder_words (Plain g) = group_words g
binder_words (Typed g) = group_words g
binder_words (Grouped bs b) = bracket_words bs ++ group_words b.names

-- one binder for each name
abbrev pub bound_by : Quantifier → List Word → Tree → Tree
bound_by q [] t = t
bound_by q (x ∷ xs) t = Bind q x.text (bound_by q xs t)

abbrev pub meaning : Shape → Tree
meaning (Named x) = Call x.text Ended
meaning (Numeral n) = Number n.text
meaning (Falsum at) = Never
meaning (Paren at s) = meaning s
meaning (Next at s) = After (meaning s) Ended
meaning (App f s) = with_arg (meaning f) (meaning s)
meaning (Neg at s) = denied (meaning s)
meaning (Quant at q b s) = bound_by q (binder_words b) (meaning s)
meaning (Binary at op l r) = joined_by op (meaning l) (meaning r)

-- ---- the printed shape, each place 0

abbrev pub sign_of : Join → Op
sign_of Arrow = Implies
sign_of Either = Or
sign_of Both = And
sign_of Equals = Equal
sign_of AtMost = LessEqual
sign_of Below = Less
sign_of Sum = Plus
sign_of Product = Times
sign_of Raised = Power

abbrev pub is_quant : Shape → Bool
is_quant (Quant at q b s) = true
is_quant _ = false

-- an operand in parentheses exactly where it is a quantifier or weaker than is wanted
abbrev pub operand : ℕ → Shape → Shape
operand min s = if is_quant s || nat_lt (strength s) min then Paren 0 s else s

abbrev pub joined : Op → Shape → Shape → Shape
joined op l r = Binary 0 op (operand (left_min op) l) (operand (right_min op) r)

-- a = b → False is a ≠ b; the two signs are equally strong
abbrev pub negated : Shape → Shape
negated (Binary at Equal l r) = Binary at NotEqual l r
negated s = Neg 0 (operand 40 s)

abbrev pub node_shape : Join → Shape → Tree → Shape → Shape
node_shape Arrow l Never r = negated l
node_shape join l t r = joined (sign_of join) l r

abbrev pub applied : Shape → List Shape → Shape
applied f [] = f
applied f (x ∷ xs) = applied (App f (operand 101 x)) xs

abbrev pub unplaced : List ℕ → Word
unplaced text = record { at = 0; text = text }

abbrev pub one_name : List ℕ → Binders
one_name x = Plain (record { first = unplaced x; others = [] })

abbrev mutual
  pub shape_of : Tree → Shape
  shape_of (Call f ts) = applied (Named (unplaced f)) (shapes_of ts)
  shape_of (Number n) = Numeral (unplaced n)
  shape_of Never = Falsum 0
  shape_of (After t ts) = applied (Next 0 (operand 101 (shape_of t))) (shapes_of ts)
  shape_of (Node join l r) = node_shape join (shape_of l) r (shape_of r)
  shape_of (Bind q x t) = Quant 0 q (one_name x) (shape_of t)

  pub shapes_of : Trees → List Shape
  shapes_of Ended = []
  shapes_of (Also t ts) = shape_of t ∷ shapes_of ts
