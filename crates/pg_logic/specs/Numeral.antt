-- Numerals, and the standard model where nothing is declared.
use Rattle.std.specs.Prelude.{ℕ, Bool, true, false, [], ◌≡◌, ◌&&◌}
use Rattle.pg_logic.specs.Tree.{Tm, nought, succ, Fm, eq}
use Rattle.pg_logic.specs.Signature.{Signature}
use Rattle.pg_logic.specs.Value.{value, functions_of}

-- the empty signature
abbrev pub no_declarations : Signature
no_declarations = record { functions = []; predicates = [] }

-- a numeral: 0 under any number of successors
abbrev pub is_numeral : Tm → Bool
is_numeral nought = true
is_numeral (succ t) = is_numeral t
is_numeral _ = false

-- an equation of two numerals
abbrev pub is_numeral_equation : Fm → Bool
is_numeral_equation (eq s t) = is_numeral s && is_numeral t
is_numeral_equation _ = false

-- the value of a term in the standard model, over the empty signature
abbrev pub standard_value : Tm → ℕ
standard_value t = value (functions_of no_declarations.functions) [] [] t

-- an equation whose two sides have one value in the standard model
abbrev pub SidesHaveOneValue : Fm → Type 0
SidesHaveOneValue (eq s t) = standard_value s ≡ standard_value t
SidesHaveOneValue _ = ⊥
