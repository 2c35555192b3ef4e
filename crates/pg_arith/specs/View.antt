-- The declarations that the Rust type stands for.
use Rattle.std.specs.Prelude.{◌≡◌, ℕ, List, map, codes}
use Rattle.pg_logic.specs.Signature as logic
use Rattle.pg_logic.specs.Declarations.{by_recursion, by_term, NamedFunction, NamedPredicate, Declarations, function_of, predicate_of, signature_of, AreDeclared}
use Rattle.pg_terms.specs.View.{term, formula}
use Rattle.pg_arith.specs.declared.signature.Function.{Function}
use Rattle.pg_arith.specs.declared.signature.Function.TheVariants.{Recursive, Constant}
use Rattle.pg_arith.specs.declared.signature.Predicate.{Predicate}

abbrev pub function : Function → NamedFunction
function (Recursive r) = by_recursion r.name r.arity r.params (term r.base) (term r.step) r.zero_name r.succ_name
function (Constant c) = by_term c.name (term c.body) c.equation_name

abbrev pub predicate : Predicate → NamedPredicate
predicate p = record { name = p.name; arity = p.arity; functions_before = p.functions_before; body = formula p.body }

abbrev pub functions : List Function → List NamedFunction
functions fs = map function fs

abbrev pub predicates : List Predicate → List NamedPredicate
predicates ps = map predicate ps

-- the same without names
abbrev pub plain_functions : List Function → List logic.Function
plain_functions fs = map function_of (functions fs)

abbrev pub plain_predicates : List Predicate → List logic.Predicate
plain_predicates ps = map predicate_of (predicates ps)

-- what is declared, with the names
abbrev pub declarations : List Function × List Predicate → Declarations
declarations s = record { functions = functions s.0; predicates = predicates s.1 }

-- and without them
abbrev pub signature : List Function × List Predicate → logic.Signature
signature s = signature_of (declarations s)

-- what holds of the fields of a signature
pub record IsSignature (s : List Function × List Predicate) (succ_inj zero_ne_succ : List ℕ) : Type 0 where
  pub declared : AreDeclared (declarations s)
  pub first_name : succ_inj ≡ codes "succ_inj"
  pub second_name : zero_ne_succ ≡ codes "zero_ne_succ"
