-- How deep each symbol of a shape is nested: how many parentheses, quantifiers, ¬, and right operands of → ∨ ∧ ^ hold
-- it. None of these holds the sign that opens it, and no parenthesis the one that closes it.
use Rattle.std.specs.Prelude.{ℕ, suc, ◌≤◌, List, [], ◌∷◌, ◌++◌, map}
use Rattle.pg_grammar.specs.Shapes.{Op, Implies, Or, And, Power, Sym, Bracket, Binders, Plain, Typed, Grouped, plain, typed, Shape, Named, Numeral, Falsum, Paren, Next, App, Neg, Quant, Binary}

-- of the right operand of this sign, which itself is nested d deep
abbrev pub right_depth : Op → ℕ → ℕ
right_depth Implies d = suc d
right_depth Or d = suc d
right_depth And d = suc d
right_depth Power d = suc d
right_depth _ d = d

-- each of these symbols is nested d deep
abbrev pub level_with : ℕ → List Sym → List ℕ
level_with d syms = map (λ sym. d) syms

abbrev pub bracket_depths : ℕ → Bracket → List ℕ
bracket_depths d b = d ∷ (level_with (suc d) (typed b.names) ++ d ∷ [])

abbrev pub all_bracket_depths : ℕ → List Bracket → List ℕ
all_bracket_depths d [] = []
all_bracket_depths d (b ∷ bs) = bracket_depths d b ++ all_bracket_depths d bs

abbrev pub binder_depths : ℕ → Binders → List ℕ
binder_depths d (Plain g) = level_with d (plain g)
binder_depths d (Typed g) = level_with d (typed g)
binder_depths d (Grouped bs b) = all_bracket_depths d bs ++ bracket_depths d b

-- of each symbol of a shape that is nested d deep, in order
abbrev pub depths : ℕ → Shape → List ℕ
depths d (Named x) = d ∷ []
depths d (Numeral n) = d ∷ []
depths d (Falsum at) = d ∷ []
depths d (Paren at s) = d ∷ (depths (suc d) s ++ d ∷ [])
depths d (Next at s) = d ∷ depths d s
depths d (App f s) = depths d f ++ depths d s
depths d (Neg at s) = d ∷ depths (suc d) s
depths d (Quant at q b s) = d ∷ (binder_depths (suc d) b ++ suc d ∷ depths (suc d) s)
depths d (Binary at op l r) = depths d l ++ d ∷ depths (right_depth op d) r

abbrev pub AreWithin : ℕ → List ℕ → Type 0
AreWithin limit [] = Unit {0}
AreWithin limit (d ∷ ds) = (d ≤ limit) × AreWithin limit ds
