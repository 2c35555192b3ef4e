-- Declarations of functions and predicates with their names, and when one more is refused.
use Rattle.std.specs.Prelude.{ℕ, ◌+◌, ◌-◌, ◌≡◌, ◌<◌, ◌≤◌, ◌^◌, Bool, true, false, ◌||◌, List, [], ◌∷◌, ◌++◌, map, flat_map, length, nat_lt, Option, Some, None, option_map, slice_get, if◌then◌else◌, codes}
use Rattle.std.specs.List.{list_any, All}
use Rattle.std.specs.Str.{bytes_eq}
use Rattle.pg_logic.specs.Tree.{Tm, free, bound, nought, succ, app, Tms, none, arg, Fm, falsum, eq, pred, and, or, imp, all, ex}
use Rattle.pg_logic.specs.Signature.{Function, recursive, constant, Predicate, Signature, IsDeclared, takes, holds_of, count}

-- a name, as its bytes
abbrev pub Name : Type 0
Name = List ℕ

-- a function: by recursion on the last of its parameters, which have names, with the names of its equations at zero and at a successor; or a constant, with the name of its equation
pub data NamedFunction : Type 0 where
  by_recursion : (name : Name) (arity : ℕ) (params : List Name) (base step : Tm) (zero_name succ_name : Name) → NamedFunction
  by_term : (name : Name) (body : Tm) (equation_name : Name) → NamedFunction

-- a predicate, which is declared after so many functions
pub record NamedPredicate : Type 0 where
  pub name : Name
  pub arity : ℕ
  pub functions_before : ℕ
  pub body : Fm

-- what is declared: the functions and the predicates, each in order of declaration
pub record Declarations : Type 0 where
  pub functions : List NamedFunction
  pub predicates : List NamedPredicate

abbrev pub name_of : NamedFunction → Name
name_of (by_recursion name n params base step zero_name succ_name) = name
name_of (by_term name body equation_name) = name

abbrev pub arity_of : NamedFunction → ℕ
arity_of (by_recursion name n params base step zero_name succ_name) = n
arity_of (by_term name body equation_name) = 0

-- the same without the names
abbrev pub function_of : NamedFunction → Function
function_of (by_recursion name n params base step zero_name succ_name) = recursive n base step
function_of (by_term name body equation_name) = constant body

abbrev pub predicate_of : NamedPredicate → Predicate
predicate_of p = record { arity = p.arity; functions_before = p.functions_before; body = p.body }

abbrev pub signature_of : Declarations → Signature
signature_of d = record { functions = map function_of d.functions; predicates = map predicate_of d.predicates }

-- the predicate that is declared next: it stands behind all functions
abbrev pub next_predicate : Declarations → Name → ℕ → Fm → NamedPredicate
next_predicate d name n body = record { name = name; arity = n; functions_before = length d.functions; body = body }

-- one more function, one more predicate
abbrev pub with_function : Declarations → NamedFunction → Declarations
with_function d f = record { functions = d.functions ++ f ∷ []; predicates = d.predicates }

abbrev pub with_predicate : Declarations → NamedPredicate → Declarations
with_predicate d p = record { functions = d.functions; predicates = d.predicates ++ p ∷ [] }

-- the names that a function brings: its own and those of its equations
abbrev pub names_in : NamedFunction → List Name
names_in (by_recursion name n params base step zero_name succ_name) = name ∷ zero_name ∷ succ_name ∷ []
names_in (by_term name body equation_name) = name ∷ equation_name ∷ []

-- the names of all functions, predicates and axioms
abbrev pub names_of : Declarations → List Name
names_of d = flat_map names_in d.functions ++ (map (λ p. p.name) d.predicates ++ codes "succ_inj" ∷ codes "zero_ne_succ" ∷ [])

-- whether one of the new names is taken, or two of them are equal
abbrev pub clash : List Name → List Name → Bool
clash taken [] = false
clash taken (x ∷ more) = list_any (bytes_eq x) (more ++ taken) || clash taken more

-- a list with the one element where the test is false
abbrev pub unless_true : Bool → ℕ → List ℕ
unless_true true k = []
unless_true false k = k ∷ []

-- the numbers, in preorder, of those functions of a term that are not declared or have another arity
abbrev mutual
  pub undeclared : List Function → Tm → List ℕ
  undeclared fs (free i) = []
  undeclared fs (bound i) = []
  undeclared fs nought = []
  undeclared fs (succ t) = undeclared fs t
  undeclared fs (app f ts) = unless_true (takes (slice_get fs f) (count ts)) f ++ undeclared_all fs ts

  pub undeclared_all : List Function → Tms → List ℕ
  undeclared_all fs none = []
  undeclared_all fs (arg t ts) = undeclared fs t ++ undeclared_all fs ts

-- the same of the functions and predicates of a formula
abbrev pub undeclared_in : Signature → Fm → List ℕ
undeclared_in s falsum = []
undeclared_in s (eq a b) = undeclared s.functions a ++ undeclared s.functions b
undeclared_in s (pred p ts) = unless_true (holds_of (slice_get s.predicates p) (count ts)) p ++ undeclared_all s.functions ts
undeclared_in s (and a b) = undeclared_in s a ++ undeclared_in s b
undeclared_in s (or a b) = undeclared_in s a ++ undeclared_in s b
undeclared_in s (imp a b) = undeclared_in s a ++ undeclared_in s b
undeclared_in s (all x a) = undeclared_in s a
undeclared_in s (ex x a) = undeclared_in s a

-- the numbers, in preorder, of those variables of a term under d binders that are no binder's and none of the first n free ones
abbrev mutual
  pub loose : ℕ → ℕ → Tm → List ℕ
  loose n d (free i) = unless_true (nat_lt i n) i
  loose n d (bound i) = unless_true (nat_lt i d) i
  loose n d nought = []
  loose n d (succ t) = loose n d t
  loose n d (app f ts) = loose_all n d ts

  pub loose_all : ℕ → ℕ → Tms → List ℕ
  loose_all n d none = []
  loose_all n d (arg t ts) = loose n d t ++ loose_all n d ts

-- the same of a formula
abbrev pub loose_in : ℕ → ℕ → Fm → List ℕ
loose_in n d falsum = []
loose_in n d (eq a b) = loose n d a ++ loose n d b
loose_in n d (pred p ts) = loose_all n d ts
loose_in n d (and a b) = loose_in n d a ++ loose_in n d b
loose_in n d (or a b) = loose_in n d a ++ loose_in n d b
loose_in n d (imp a b) = loose_in n d a ++ loose_in n d b
loose_in n d (all x a) = loose_in n (d + 1) a
loose_in n d (ex x a) = loose_in n (d + 1) a

-- functions and predicates have at most so many arguments
abbrev pub arity_limit : ℕ
arity_limit = 4

-- why a declaration is refused: a name is taken; a number is used before it is declared, or with another arity; an arity is over the limit; a variable is loose
pub data Refusal : Type 0 where
  name_taken : Refusal
  uses_later : (id : ℕ) → Refusal
  arity_over : (n : ℕ) → Refusal
  loose_variable : (id : ℕ) → Refusal

abbrev pub first : List ℕ → Option ℕ
first [] = None
first (x ∷ xs) = Some x

-- the first cause that holds, in this order
abbrev pub refusal_by : Bool → Option ℕ → ℕ → Option ℕ → Option Refusal
refusal_by true later arity astray = Some name_taken
refusal_by false (Some k) arity astray = Some (uses_later k)
refusal_by false None arity astray = if nat_lt arity_limit arity then Some (arity_over arity) else option_map loose_variable astray

-- why one more function is refused. Its base is over the parameters but the last, its step over all of them and the value at the predecessor; the base comes before the step
abbrev pub function_refusal : Declarations → NamedFunction → Option Refusal
function_refusal d (by_recursion name n params base step zero_name succ_name) =
    refusal_by
    (clash (names_of d) (name ∷ zero_name ∷ succ_name ∷ []))
    (first (undeclared (signature_of d).functions base ++ undeclared (signature_of d).functions step))
    n
    (first (loose (n - 1) 0 base ++ loose (n + 1) 0 step))
function_refusal d (by_term name body equation_name) =
    refusal_by (clash (names_of d) (name ∷ equation_name ∷ [])) (first (undeclared (signature_of d).functions body)) 0 (first (loose 0 0 body))

-- why one more predicate is refused
abbrev pub predicate_refusal : Declarations → NamedPredicate → Option Refusal
predicate_refusal d p = refusal_by (clash (names_of d) (p.name ∷ [])) (first (undeclared_in (signature_of d) p.body)) p.arity (first (loose_in p.arity 0 p.body))

-- a function by recursion has a parameter, and each of its parameters has a name
abbrev pub HasParameters : NamedFunction → Type 0
HasParameters (by_recursion name n params base step zero_name succ_name) = (0 < n) × (length params ≡ n)
HasParameters (by_term name body equation_name) = Unit {0}

-- what holds of all declarations: each is over those before it, all names differ, each parameter has a name, no arity is over the limit, and the numbers fit 16 bits
pub record AreDeclared (d : Declarations) : Type 0 where
  pub declared : IsDeclared (signature_of d)
  pub names_differ : clash [] (names_of d) ≡ false
  pub parameters : All HasParameters d.functions
  pub function_arities : All (λ f. arity_of f ≤ arity_limit) d.functions
  pub predicate_arities : All (λ p. p.arity ≤ arity_limit) d.predicates
  pub function_room : length d.functions < 2 ^ 16
  pub predicate_room : length d.predicates < 2 ^ 16

-- one more function is declared: nothing refuses it, and it has the next number
pub record AddsFunction (old new : Declarations) (f : NamedFunction) (id : ℕ) : Type 0 where
  pub no_refusal : function_refusal old f ≡ None
  pub next : id ≡ length old.functions
  pub added : new ≡ with_function old f

-- one more predicate is declared
pub record AddsPredicate (old new : Declarations) (p : NamedPredicate) (id : ℕ) : Type 0 where
  pub no_refusal : predicate_refusal old p ≡ None
  pub next : id ≡ length old.predicates
  pub added : new ≡ with_predicate old p
