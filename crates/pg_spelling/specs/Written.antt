-- The text of a shape, and the printed text of a term and of a formula, as bytes.
use Rattle.std.specs.Prelude.{ℕ, List, [], ◌∷◌, ◌++◌, codes}
use Rattle.pg_logic.specs.Tree.{Tm, Fm}
use Rattle.pg_grammar.specs.Shapes.{Op, Implies, Or, And, Equal, NotEqual, LessEqual, Less, Plus, Times, Power, Quantifier, ForAll, Exists, Word, Group, Bracket, Binders, Plain, Typed, Grouped, Shape, Named, Numeral, Falsum, Paren, Next, App, Neg, Quant, Binary}
use Rattle.pg_grammar.specs.Printing.{shape_of}
use Rattle.pg_meaning.specs.Scope.{Scope}
use Rattle.pg_spelling.specs.Named.{named, named_formula}

-- the signs, as the bytes of their characters
abbrev pub op_text : Op → List ℕ
op_text Implies = 226 ∷ 134 ∷ 146 ∷ []  -- →
op_text Or = 226 ∷ 136 ∷ 168 ∷ []  -- ∨
op_text And = 226 ∷ 136 ∷ 167 ∷ []  -- ∧
op_text Equal = 61 ∷ []  -- =
op_text NotEqual = 226 ∷ 137 ∷ 160 ∷ []  -- ≠
op_text LessEqual = 226 ∷ 137 ∷ 164 ∷ []  -- ≤
op_text Less = 60 ∷ []  -- <
op_text Plus = 43 ∷ []  -- +
op_text Times = 42 ∷ []  -- *
op_text Power = 94 ∷ []  -- ^

abbrev pub quantifier_text : Quantifier → List ℕ
quantifier_text ForAll = 226 ∷ 136 ∷ 128 ∷ []  -- ∀
quantifier_text Exists = 226 ∷ 136 ∷ 131 ∷ []  -- ∃

-- ¬
abbrev pub not_text : List ℕ
not_text = 194 ∷ 172 ∷ []

-- a blank, a colon, a blank and ℕ
abbrev pub type_text : List ℕ
type_text = 32 ∷ 58 ∷ 32 ∷ 226 ∷ 132 ∷ 149 ∷ []

-- names with a blank between two
abbrev pub more_names : List Word → List ℕ
more_names [] = []
more_names (x ∷ xs) = codes " " ++ (x.text ++ more_names xs)

abbrev pub group_text : Group → List ℕ
group_text g = g.first.text ++ more_names g.others

abbrev pub bracket_text : Bracket → List ℕ
bracket_text b = codes "(" ++ (group_text b.names ++ (type_text ++ codes ")"))

abbrev pub brackets_text : List Bracket → List ℕ
brackets_text [] = []
brackets_text (b ∷ bs) = bracket_text b ++ (codes " " ++ brackets_text bs)

abbrev pub binders_text : Binders → List ℕ
binders_text (Plain g) = group_text g
binders_text (Typed g) = group_text g ++ type_text
binders_text (Grouped bs b) = brackets_text bs ++ bracket_text b

-- One blank on each side of a sign that stands between two operands, behind ¬, behind a name, `succ` and an argument that has one
-- behind it, behind a quantifier's sign and its comma; none inside parentheses.
abbrev pub written : Shape → List ℕ
written (Named x) = x.text
written (Numeral n) = n.text
written (Falsum at) = codes "False"
written (Paren at s) = codes "(" ++ (written s ++ codes ")")
written (Next at s) = codes "succ " ++ written s
written (App f s) = written f ++ (codes " " ++ written s)
written (Neg at s) = not_text ++ (codes " " ++ written s)
written (Quant at q b s) = quantifier_text q ++ (codes " " ++ (binders_text b ++ (codes ", " ++ written s)))
written (Binary at op l r) = written l ++ (codes " " ++ (op_text op ++ (codes " " ++ written r)))

-- what is printed of a term and of a formula
abbrev pub printed : Scope → Tm → List ℕ
printed s t = written (shape_of (named s t))

abbrev pub printed_formula : Scope → Fm → List ℕ
printed_formula s a = written (shape_of (named_formula s a))
