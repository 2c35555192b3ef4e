-- The text of arguments.
use Rattle.std.specs.Prelude.{ℕ, List, [], ◌++◌, codes}
use Rattle.pg_logic.specs.Tree.{Tms, none, arg, Fm}
use Rattle.pg_logic.specs.Declarations.{Name}
use Rattle.pg_grammar.specs.Shapes.{Quantifier}
use Rattle.pg_grammar.specs.Printing.{shape_of, Bind}
use Rattle.pg_meaning.specs.Scope.{Scope}
use Rattle.pg_spelling.specs.Named.{named, named_formula, taken, under}
use Rattle.pg_spelling.specs.Fresh.{fresh}
use Rattle.pg_spelling.specs.Written.{written}
use Rattle.pg_syntax.specs.Places.{operand_text}

-- each behind a blank
abbrev pub arguments_text : Scope → Tms → List ℕ
arguments_text s none = []
arguments_text s (arg t ts) = codes " " ++ (operand_text 101 (shape_of (named s t)) ++ arguments_text s ts)

-- a quantifier, its name made fresh, and its body
abbrev pub bound_text : Scope → Quantifier → Name → Fm → List ℕ
bound_text s q x a = let y = fresh (taken s) x in written (shape_of (Bind q y (named_formula (under y s) a)))
