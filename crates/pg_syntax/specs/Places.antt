-- Under which names a tree is printed at a place, and how strong a printed tree is there.
use Rattle.std.specs.Prelude.{ℕ, ◌≡◌, Bool, true, false, List, ◌++◌, reverse, Option, Some, None, if◌then◌else◌}
use Rattle.pg_logic.specs.Declarations.{Name}
use Rattle.std.specs.Borrow.{Bor}
use Rattle.pg_logic.specs.Tree.{Fm, falsum, eq}
use Rattle.pg_terms.specs.declared.term.Term.{Term}
use Rattle.pg_terms.specs.View.{term}
use Rattle.pg_grammar.specs.Shapes.{Shape, strength}
use Rattle.pg_grammar.specs.Printing.{is_quant, operand}
use Rattle.pg_meaning.specs.Scope.{Scope}
use Rattle.pg_spelling.specs.Named.{live, declared_names}
use Rattle.pg_spelling.specs.Written.{written}
use Rattle.pg_arith.specs.View.{declarations}
use Rattle.pg_syntax.specs.declared.fresh.Taken.{Taken}
use Rattle.pg_syntax.specs.declared.written.Place.{Place}
use Rattle.pg_syntax.specs.declared.written.Context.{Context}

-- the names of binders are kept the innermost last
abbrev pub scope_under : Context → List Name → Scope
scope_under c binders = record { vars = c.names.now.vars.items; binders = reverse binders; declared = declarations c.sig.now }

abbrev pub scope : Place → Scope
scope p = scope_under p.context p.binders.now

-- the names that are taken
abbrev pub taken_names : Taken → List Name
taken_names t = reverse t.binders.now ++ (live t.vars.now ++ declared_names (declarations t.sig.now))

-- how strong an operand is: a quantifier stands in parentheses wherever it is one
abbrev pub weight : Shape → ℕ
weight s = if is_quant s then 0 else strength s

-- an operand, with its parentheses
abbrev pub operand_text : ℕ → Shape → List ℕ
operand_text min s = written (operand min s)

-- what a formula is
abbrev pub is_falsum : Fm → Bool
is_falsum falsum = true
is_falsum _ = false

abbrev pub is_equation : Fm → Bool
is_equation (eq a b) = true
is_equation _ = false

-- the sides of an equation
abbrev pub Sides : Fm → Option (Bor Term × Bor Term) → Type 0
Sides a None = is_equation a ≡ false
Sides a (Some p) = a ≡ eq (term p.0.now) (term p.1.now)
