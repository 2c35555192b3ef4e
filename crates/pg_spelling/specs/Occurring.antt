-- Claims on the functions and predicates that occur in a tree; one that isn't declared is passed over.
use Rattle.std.specs.Prelude.{slice_get}
use Rattle.std.specs.Option.{IfSome}
use Rattle.pg_logic.specs.Tree.{Tm, free, bound, nought, succ, app, Tms, none, arg, Fm, falsum, eq, pred, and, or, imp, all, ex}
use Rattle.pg_logic.specs.Declarations.{NamedFunction, NamedPredicate, Declarations}

-- a claim on each function and constant of a term
abbrev mutual
  pub EachFunction : (NamedFunction → Type 0) → Declarations → Tm → Type 0
  EachFunction P d (free i) = Unit {0}
  EachFunction P d (bound i) = Unit {0}
  EachFunction P d nought = Unit {0}
  EachFunction P d (succ t) = EachFunction P d t
  EachFunction P d (app f ts) = IfSome (slice_get d.functions f) P × EachFunctions P d ts

  pub EachFunctions : (NamedFunction → Type 0) → Declarations → Tms → Type 0
  EachFunctions P d none = Unit {0}
  EachFunctions P d (arg t ts) = EachFunction P d t × EachFunctions P d ts

-- and one on each predicate of a formula
abbrev pub EachSymbol : (NamedFunction → Type 0) → (NamedPredicate → Type 0) → Declarations → Fm → Type 0
EachSymbol P Q d falsum = Unit {0}
EachSymbol P Q d (eq a b) = EachFunction P d a × EachFunction P d b
EachSymbol P Q d (pred p ts) = IfSome (slice_get d.predicates p) Q × EachFunctions P d ts
EachSymbol P Q d (and a b) = EachSymbol P Q d a × EachSymbol P Q d b
EachSymbol P Q d (or a b) = EachSymbol P Q d a × EachSymbol P Q d b
EachSymbol P Q d (imp a b) = EachSymbol P Q d a × EachSymbol P Q d b
EachSymbol P Q d (all x a) = EachSymbol P Q d a
EachSymbol P Q d (ex x a) = EachSymbol P Q d a
