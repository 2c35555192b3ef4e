-- Shapes with the places at which their tokens stand in their text, and shapes without places.
use Rattle.std.specs.Prelude.{ℕ, ◌≡◌, ◌+◌, List, [], ◌∷◌, length, map, None}
use Rattle.pg_grammar.specs.Shapes.{Word, Group, Bracket, Binders, Plain, Typed, Grouped, Shape, Named, Numeral, Falsum, Paren, Next, App, Neg, Quant, Binary, IsShape}
use Rattle.pg_grammar.specs.Nesting.{depths}
use Rattle.pg_grammar.specs.Printing.{Tree, shape_of}
use Rattle.pg_meaning.specs.Scope.{Scope}
use Rattle.pg_meaning.specs.Faults.{Sort, first_fault}
use Rattle.pg_meaning.specs.Meaning.{term_of, formula_of}
use Rattle.pg_spelling.specs.Written.{op_text, quantifier_text, bracket_text, brackets_text, binders_text, written}

-- ---- in the text

abbrev pub placed_word : ℕ → Word → Word
placed_word at x = record { at = at; text = x.text }

-- names with a blank before each
abbrev pub placed_words : ℕ → List Word → List Word
placed_words at [] = []
placed_words at (x ∷ xs) = placed_word (at + 1) x ∷ placed_words (at + 1 + length x.text) xs

abbrev pub placed_group : ℕ → Group → Group
placed_group at g = record { first = placed_word at g.first; others = placed_words (at + length g.first.text) g.others }

abbrev pub placed_bracket : ℕ → Bracket → Bracket
placed_bracket at b = record { at = at; names = placed_group (at + 1) b.names }

abbrev pub placed_brackets : ℕ → List Bracket → List Bracket
placed_brackets at [] = []
placed_brackets at (b ∷ bs) = placed_bracket at b ∷ placed_brackets (at + length (bracket_text b) + 1) bs

abbrev pub placed_binders : ℕ → Binders → Binders
placed_binders at (Plain g) = Plain (placed_group at g)
placed_binders at (Typed g) = Typed (placed_group at g)
placed_binders at (Grouped bs b) = Grouped (placed_brackets at bs) (placed_bracket (at + length (brackets_text bs)) b)

-- The shape whose tokens stand where its text has them; the text begins at this byte.
abbrev pub placed : ℕ → Shape → Shape
placed at (Named x) = Named (placed_word at x)
placed at (Numeral n) = Numeral (placed_word at n)
placed at (Falsum old) = Falsum at
placed at (Paren old s) = Paren at (placed (at + 1) s)
placed at (Next old s) = Next at (placed (at + 5) s)
placed at (App f s) = App (placed at f) (placed (at + length (written f) + 1) s)
placed at (Neg old s) = Neg at (placed (at + 3) s)
placed at (Quant old q b s) = let names = at + length (quantifier_text q) + 1 in Quant at q (placed_binders names b) (placed (names + length (binders_text b) + 2) s)
placed at (Binary old op l r) = let sign = at + length (written l) + 1 in Binary sign op (placed at l) (placed (sign + length (op_text op) + 1) r)

-- ---- without places

abbrev pub placeless_group : Group → Group
placeless_group g = record { first = placed_word 0 g.first; others = map (placed_word 0) g.others }

abbrev pub placeless_bracket : Bracket → Bracket
placeless_bracket b = record { at = 0; names = placeless_group b.names }

abbrev pub placeless_binders : Binders → Binders
placeless_binders (Plain g) = Plain (placeless_group g)
placeless_binders (Typed g) = Typed (placeless_group g)
placeless_binders (Grouped bs b) = Grouped (map placeless_bracket bs) (placeless_bracket b)

-- the shape with each place 0
abbrev pub placeless : Shape → Shape
placeless (Named x) = Named (placed_word 0 x)
placeless (Numeral n) = Numeral (placed_word 0 n)
placeless (Falsum at) = Falsum 0
placeless (Paren at s) = Paren 0 (placeless s)
placeless (Next at s) = Next 0 (placeless s)
placeless (App f s) = App (placeless f) (placeless s)
placeless (Neg at s) = Neg 0 (placeless s)
placeless (Quant at q b s) = Quant 0 q (placeless_binders b) (placeless s)
placeless (Binary at op l r) = Binary 0 op (placeless l) (placeless r)

-- ---- the law

-- what one of them is and means the other is and means
pub record AreAlike (s t : Shape) : Type 0 where
  pub shape : IsShape s → IsShape t
  pub nesting : (d : ℕ) → depths d s ≡ depths d t
  pub term : (c : Scope) → term_of c s ≡ term_of c t
  pub formula : (c : Scope) → formula_of c s ≡ formula_of c t
  pub faultless : (c : Scope) (want : Sort) → first_fault c want s ≡ None → first_fault c want t ≡ None

-- Places change no other part of a shape, the printed shape has none, and shapes that differ in places alone are alike.
pub record PlaceLaw : Type 0 where
  pub placed_again : (at : ℕ) (s : Shape) → placeless (placed at s) ≡ placeless s
  pub printed : (t : Tree) → placeless (shape_of t) ≡ shape_of t
  pub alike : (s t : Shape) → placeless s ≡ placeless t → AreAlike s t
