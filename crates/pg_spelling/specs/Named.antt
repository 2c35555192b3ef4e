-- Terms and formulas with the names with which they are printed.
use Rattle.std.specs.Prelude.{ℕ, Bool, false, List, [], ◌∷◌, ◌++◌, map, Option, Some, None, if◌then◌else◌, slice_get, slice_index_or, codes}
use Rattle.std.specs.Char.{is_ascii_digit}
use Rattle.std.specs.Str.{bytes_eq}
use Rattle.pg_logic.specs.Tree.{Tm, free, bound, nought, succ, app, Tms, none, arg, Fm, falsum, eq, pred, and, or, imp, all, ex}
use Rattle.pg_logic.specs.Declarations.{Name, Declarations, name_of}
use Rattle.pg_grammar.specs.Shapes.{ForAll, Exists}
use Rattle.pg_grammar.specs.Printing.{Join, Arrow, Either, Both, Equals, AtMost, Below, Sum, Product, Raised, Tree, Trees, Ended, Also, Call, Number, Never, After, Node, Bind}
use Rattle.pg_meaning.specs.Scope.{Scope}
use Rattle.pg_spelling.specs.Fresh.{fresh}

-- inside a binder of this printed name
abbrev pub under : Name → Scope → Scope
under x s = record { vars = s.vars; binders = x ∷ s.binders; declared = s.declared }

-- the names that there are
abbrev pub live : List (Option Name) → List Name
live [] = []
live (None ∷ vars) = live vars
live (Some x ∷ vars) = x ∷ live vars

-- the names of functions, constants and predicates
abbrev pub function_names : Declarations → List Name
function_names d = map name_of d.functions

abbrev pub predicate_names : Declarations → List Name
predicate_names d = map (λ p. p.name) d.predicates

abbrev pub declared_names : Declarations → List Name
declared_names d = function_names d ++ predicate_names d

-- what a binder may not be called
abbrev pub taken : Scope → List Name
taken s = s.binders ++ (live s.vars ++ declared_names s.declared)

-- the name that a number has, or the empty text
abbrev pub name_at : List Name → ℕ → Name
name_at names i = slice_index_or names i []

abbrev pub live_name : Option (Option Name) → Name
live_name (Some (Some x)) = x
live_name _ = []

abbrev pub variable : Scope → ℕ → Name
variable s i = live_name (slice_get s.vars i)

-- the signs that a function or a predicate may have for its name: + * ^ ≤ <
abbrev pub sign_in : List (Name × Join) → Name → Option Join
sign_in [] name = None
sign_in (row ∷ rows) name = if bytes_eq name row.0 then Some row.1 else sign_in rows name

abbrev pub sign_named : Name → Option Join
sign_named = sign_in ((codes "+", Sum) ∷ (codes "*", Product) ∷ (codes "^", Raised) ∷ (226 ∷ 137 ∷ 164 ∷ [], AtMost) ∷ (codes "<", Below) ∷ [])

abbrev pub begins_with_digit : Name → Bool
begins_with_digit [] = false
begins_with_digit (c ∷ cs) = is_ascii_digit c

-- a name alone, which may be a number
abbrev pub alone : Name → Tree
alone name = if begins_with_digit name then Number name else Call name Ended

-- a name at two arguments: a sign stands between them
abbrev pub between : Option Join → Name → Tree → Tree → Tree
between (Some join) name a b = Node join a b
between None name a b = Call name (Also a (Also b Ended))

abbrev pub at_arguments : Name → Trees → Tree
at_arguments name Ended = alone name
at_arguments name (Also a (Also b Ended)) = between (sign_named name) name a b
at_arguments name ts = Call name ts

abbrev mutual
  pub named : Scope → Tm → Tree
  named s (free i) = Call (variable s i) Ended
  named s (bound i) = Call (name_at s.binders i) Ended
  named s nought = Number (codes "0")
  named s (succ t) = After (named s t) Ended
  named s (app f ts) = at_arguments (name_at (function_names s.declared) f) (named_all s ts)

  pub named_all : Scope → Tms → Trees
  named_all s none = Ended
  named_all s (arg t ts) = Also (named s t) (named_all s ts)

-- A binder's name is made fresh.
abbrev pub named_formula : Scope → Fm → Tree
named_formula s falsum = Never
named_formula s (eq a b) = Node Equals (named s a) (named s b)
named_formula s (pred p ts) = at_arguments (name_at (predicate_names s.declared) p) (named_all s ts)
named_formula s (and a b) = Node Both (named_formula s a) (named_formula s b)
named_formula s (or a b) = Node Either (named_formula s a) (named_formula s b)
named_formula s (imp a b) = Node Arrow (named_formula s a) (named_formula s b)
named_formula s (all x a) = Bind ForAll (fresh (taken s) x) (named_formula (under (fresh (taken s) x) s) a)
named_formula s (ex x a) = Bind Exists (fresh (taken s) x) (named_formula (under (fresh (taken s) x) s) a)
