-- The formulas, terms and equations of a game text: what they mean under the declarations that stand before them, and their faults.
use Rattle.std.specs.Prelude.{ℕ, suc, ◌+◌, ◌-◌, Bool, true, false, ◌||◌, not, List, [], ◌∷◌, ◌++◌, length, map, take, Option, Some, None, if◌then◌else◌, ◌==◌}
use Rattle.pg_base.specs.declared.token.TokenKind.{TokenKind}
use Rattle.pg_base.specs.declared.token.TokenKind.TheVariants as kind
use Rattle.pg_base.specs.declared.token.Sign.{Sign}
use Rattle.pg_base.specs.declared.token.Sign.TheVariants as sign
use Rattle.pg_base.specs.Tokens.{Word}
use Rattle.pg_logic.specs.Tree.{Tm, free, bound, nought, succ, app, Tms, none, arg, args_of, Fm, falsum, eq, all, imp, same, closed_over_formula}
use Rattle.pg_logic.specs.Axioms.{quantified}
use Rattle.pg_logic.specs.Declarations.{Name, NamedFunction, by_recursion, by_term, NamedPredicate, Declarations, next_predicate, with_function, with_predicate}
use Rattle.pg_meaning.specs.Scope.{Scope, outermost}
use Rattle.pg_shape.specs.Answers.{Shaped, Broken, shape_answer}
use Rattle.pg_syntax.specs.Answers.{Answer, Read, term_answer, formula_answer}
use Rattle.pg_syntax.specs.declared.statement.Binder.{Binder as StatedBinder}
use Rattle.pg_syntax.specs.declared.statement.Binder.TheVariants.{Var, Hyp}
use Rattle.pg_terms.specs.View.{formula}
use Rattle.pg_script.specs.Data.{Part}
use Rattle.pg_gametext.specs.Faults.{Fault, fault, Expected, NotRecursive, fault_if, shape_kind, answer_faults, answer_value, size_faults}
use Rattle.pg_gametext.specs.Forms.{Equation, FunctionText, ConstantText, PredicateText, StatementText, BinderText, variables, hypothesis, declared_text}
use Rattle.pg_gametext.specs.Placed.{Command, function, constant, predicate, Placed}

abbrev pub texts : List Word → List Name
texts ws = map (λ (w : Word). w.text) ws

abbrev pub scope : List Name → Declarations → Scope
scope vars d = outermost (map Some vars) d

abbrev pub formula_of_part : List Name → Declarations → Part → Answer Fm
formula_of_part vars d p = formula_answer (scope vars d) p.end p.tokens

abbrev pub term_of_part : List Name → Declarations → Part → Answer Tm
term_of_part vars d p = term_answer (scope vars d) p.end p.tokens

-- ---- equations

-- what a token outside parentheses is to an equation
pub data Outside : Type 0 where
  Opens : Outside
  Closes : Outside
  Equals : Outside
  Joins : Outside  -- another sign between formulas or terms that makes no term
  Negates : Outside
  Quantifies : Outside
  Within : Outside

abbrev pub outside_sign : Sign → Outside
outside_sign sign.OpenParen = Opens
outside_sign sign.CloseParen = Closes
outside_sign sign.Equal = Equals
outside_sign sign.NotEqual = Joins
outside_sign sign.LessEqual = Joins
outside_sign sign.Less = Joins
outside_sign sign.Arrow = Joins
outside_sign sign.And = Joins
outside_sign sign.Or = Joins
outside_sign sign.Not = Negates
outside_sign sign.ForAll = Quantifies
outside_sign sign.Exists = Quantifies
outside_sign _ = Within

abbrev pub outside_kind : TokenKind → Outside
outside_kind (kind.Sign s) = outside_sign s
outside_kind _ = Within

abbrev pub outside : Word → Outside
outside w = outside_kind w.kind

-- The first token with which no `l = r` begins so, by the signs outside of so many parentheses: before `=` a sign that
-- makes no term, behind it one more such sign that stands in no quantifier.
abbrev pub no_equation : (seen : Bool) → (depth : ℕ) → (end : ℕ) → List Word → Option ℕ
no_equation seen n end [] = if seen then None else Some end
no_equation seen (suc n) end (w ∷ ws) = elim (outside w) [ Opens ↦ no_equation seen (suc (suc n)) end ws | Closes ↦ no_equation seen n end ws | _ ↦ no_equation seen (suc n) end ws ]
no_equation false n end (w ∷ ws) = elim (outside w) [
  | Opens ↦ no_equation false (suc n) end ws
  | Equals ↦ no_equation true n end ws
  | Joins ↦ Some w.at
  | Negates ↦ Some w.at
  | Quantifies ↦ Some w.at
  | _ ↦ no_equation false n end ws
]
no_equation true n end (w ∷ ws) = elim (outside w) [
  | Opens ↦ no_equation true (suc n) end ws
  | Equals ↦ Some w.at
  | Joins ↦ Some w.at
  | Quantifies ↦ None
  | _ ↦ no_equation true n end ws
]

-- the two sides, or the faults
pub data Sides : Type 0 where
  sides : Tm → Tm → Sides
  no_sides : List Fault → Sides

abbrev pub sides_of : Answer Fm → Sides
sides_of (Read (eq l r)) = sides l r
sides_of a = no_sides (answer_faults a)

-- the first of the shape's fault and of that of the equation; the meaning is asked for where neither is
abbrev pub equation_sides : List Name → Declarations → Part → Sides
equation_sides vars d p =
    elim (no_equation false 0 p.end p.tokens) [
      | None ↦ sides_of (formula_of_part vars d p)
      | Some at ↦ elim (shape_answer p.end p.tokens) [ Shaped s ↦ no_sides (fault at Expected ∷ []) | Broken f place ↦ no_sides (fault place (shape_kind f) ∷ fault at Expected ∷ []) ]
    ]

abbrev pub sides_faults : Sides → List Fault
sides_faults (sides l r) = []
sides_faults (no_sides fs) = fs

-- ---- recursion

-- whether the function stands in the term
abbrev mutual
  pub holds : ℕ → Tm → Bool
  holds f (free i) = false
  holds f (bound i) = false
  holds f nought = false
  holds f (succ t) = holds f t
  holds f (app g ts) = (f == g) || any_holds f ts

  pub any_holds : ℕ → Tms → Bool
  any_holds f none = false
  any_holds f (arg t ts) = holds f t || any_holds f ts

-- the term with one term for each that is another
abbrev mutual
  pub exchanged : Tm → Tm → Tm → Tm
  exchanged old new (free i) = if same old (free i) then new else free i
  exchanged old new (bound i) = if same old (bound i) then new else bound i
  exchanged old new nought = if same old nought then new else nought
  exchanged old new (succ t) = if same old (succ t) then new else succ (exchanged old new t)
  exchanged old new (app g ts) = if same old (app g ts) then new else app g (all_exchanged old new ts)

  pub all_exchanged : Tm → Tm → Tms → Tms
  all_exchanged old new none = none
  all_exchanged old new (arg t ts) = arg (exchanged old new t) (all_exchanged old new ts)

abbrev pub parameters_from : ℕ → List Word → List Tm
parameters_from k [] = []
parameters_from k (w ∷ ws) = free k ∷ parameters_from (k + 1) ws

abbrev pub parameters : List Word → List Tm
parameters ws = parameters_from 0 ws

-- function f at its parameters, the last of which is this
abbrev pub function_at : ℕ → List Word → Tm → Tm
function_at f params last = app f (args_of (take (length params - 1) (parameters params) ++ last ∷ []))

abbrev pub last_parameter : List Word → Tm
last_parameter params = free (length params - 1)

-- the right side at a successor, with the variable after the parameters for the value at the predecessor
abbrev pub step_of : ℕ → List Word → Tm → Tm
step_of f params r = exchanged (function_at f params (last_parameter params)) (free (length params)) r

-- the declarations with the function of this text, as its equations are read
abbrev pub with_new : Declarations → Name → List Word → Declarations
with_new d f params = with_function d (by_recursion f (length params) (texts params) nought nought [] [])

-- the parameters but the last
abbrev pub leading : List Word → List Word
leading params = take (length params - 1) params

-- an equation of the text, read under these parameters
abbrev pub equation_read : Declarations → List Word → Option Part → Sides
equation_read d params None = no_sides []
equation_read d params (Some p) = equation_sides (texts params) d p

abbrev pub zero_sides : Declarations → Name → List Word → Equation → Sides
zero_sides d f params e = equation_read (with_new d f params) (leading params) e.says

abbrev pub succ_sides : Declarations → Name → List Word → Equation → Sides
succ_sides d f params e = equation_read (with_new d f params) params e.says

-- the axiom, which is the equation under a quantifier for each of these parameters, is measured
abbrev pub axiom_faults : ℕ → List Word → Tm → Tm → List Fault
axiom_faults at params l r = size_faults at (quantified (texts params) (eq l r))

abbrev pub zero_faults : ℕ → List Word → ℕ → Sides → List Fault
zero_faults f params at (no_sides fs) = fs
zero_faults f params at (sides l r) =
    axiom_faults at (leading params) l r ++ fault_if (not (same l (function_at f params nought)) || holds f r) at NotRecursive

abbrev pub succ_faults : ℕ → List Word → ℕ → Sides → List Fault
succ_faults f params at (no_sides fs) = fs
succ_faults f params at (sides l r) =
    axiom_faults at params l r ++ fault_if (not (same l (function_at f params (succ (last_parameter params)))) || holds f (step_of f params r)) at NotRecursive

abbrev pub right_side : Sides → Tm
right_side (sides l r) = r
right_side (no_sides fs) = nought

-- ---- declarations

abbrev pub name_or_none : Option Word → Name
name_or_none None = []
name_or_none (Some w) = declared_text w

abbrev pub equation_text : Option Equation → Name
equation_text None = []
equation_text (Some e) = e.name.text

abbrev pub base_of : Declarations → Name → List Word → Option Equation → Tm
base_of d f params None = nought
base_of d f params (Some e) = right_side (zero_sides d f params e)

abbrev pub successor_of : Declarations → Name → List Word → Option Equation → Tm
successor_of d f params None = nought
successor_of d f params (Some e) = step_of (length d.functions) params (right_side (succ_sides d f params e))

-- what is declared; where the text has a fault, nothing is said of it
abbrev pub function_declared : Declarations → FunctionText → NamedFunction
function_declared d t =
    let f = name_or_none t.name in
    by_recursion f (length t.params) (texts t.params) (base_of d f t.params t.at_zero) (successor_of d f t.params t.at_succ) (equation_text t.at_zero) (equation_text t.at_succ)

abbrev pub term_or_nought : Option Tm → Tm
term_or_nought None = nought
term_or_nought (Some t) = t

abbrev pub formula_or_falsum : Option Fm → Fm
formula_or_falsum None = falsum
formula_or_falsum (Some a) = a

abbrev pub constant_body : Declarations → Option Part → Option Tm
constant_body d None = None
constant_body d (Some p) = answer_value (term_of_part [] d p)

abbrev pub constant_declared : Declarations → ConstantText → NamedFunction
constant_declared d t = by_term (name_or_none t.name) (term_or_nought (constant_body d t.body)) (name_or_none t.equation_name)

abbrev pub predicate_body : Declarations → List Word → Option Part → Option Fm
predicate_body d params None = None
predicate_body d params (Some p) = answer_value (formula_of_part (texts params) d p)

abbrev pub predicate_declared : Declarations → PredicateText → NamedPredicate
predicate_declared d t = next_predicate d (name_or_none t.name) (length t.params) (formula_or_falsum (predicate_body d t.params t.body))

abbrev pub no_declarations : Declarations
no_declarations = record { functions = []; predicates = [] }

abbrev pub declared_by : Declarations → Command → Declarations
declared_by d (function t) = with_function d (function_declared d t.value)
declared_by d (constant t) = with_function d (constant_declared d t.value)
declared_by d (predicate t) = with_predicate d (predicate_declared d t.value)
declared_by d _ = d

-- what the commands declare, the nearest first
abbrev pub declarations : List Placed → Declarations
declarations [] = no_declarations
declarations (c ∷ before) = declared_by (declarations before) c.command

-- ---- statements

-- a binder of a statement: a variable, or a hypothesis with its formula
pub data Binder : Type 0 where
  var : Name → Binder
  hyp : Name → Fm → Binder

pub record Statement : Type 0 where
  pub binders : List Binder
  pub target : Fm

-- ∀ for a variable and → for a hypothesis, the first binder outermost, where so many variables stand before
abbrev pub closed_from : ℕ → List Binder → Fm → Fm
closed_from n [] target = target
closed_from n (var x ∷ more) target = all x (closed_over_formula n (closed_from (n + 1) more target))
closed_from n (hyp h a ∷ more) target = imp a (closed_from n more target)

-- the statement's formula
abbrev pub closed : Statement → Fm
closed s = closed_from 0 s.binders s.target

-- the binder that one of the Rust type stands for
abbrev pub binder : StatedBinder → Binder
binder (Var x) = var x
binder (Hyp h a) = hyp h (formula a)

-- binders of which a formula may be broken: the names of the variables, the binders that are read, the faults of the
-- others, and whether there are none
pub record HalfRead : Type 0 where
  pub vars : List Name
  pub binders : List Binder
  pub faults : List Fault
  pub whole : Bool

abbrev pub with_formula : Name → List Name → Answer Fm → HalfRead → HalfRead
with_formula h vars (Read a) rest = record { vars = rest.vars; binders = hyp h a ∷ rest.binders; faults = rest.faults; whole = rest.whole }
with_formula h vars a rest = record { vars = rest.vars; binders = rest.binders; faults = answer_faults a ++ rest.faults; whole = false }

abbrev pub with_variables : List Word → HalfRead → HalfRead
with_variables ws rest = record { vars = rest.vars; binders = map (λ (w : Word). var w.text) ws ++ rest.binders; faults = rest.faults; whole = rest.whole }

-- binders behind these variables, each formula under the variables before it
abbrev pub binders_read : Declarations → List Name → List BinderText → HalfRead
binders_read d vars [] = record { vars = vars; binders = []; faults = []; whole = true }
binders_read d vars (variables ws ∷ more) = with_variables ws (binders_read d (vars ++ texts ws) more)
binders_read d vars (hypothesis h p ∷ more) = with_formula h.text vars (formula_of_part vars d p) (binders_read d vars more)

abbrev pub target_of : Declarations → List Name → Option Part → Option (Answer Fm)
target_of d vars None = None
target_of d vars (Some p) = Some (formula_of_part vars d p)

-- the statement, where each formula of it is read
abbrev pub statement_with : HalfRead → Option (Answer Fm) → Option Statement
statement_with b (Some (Read a)) = if b.whole then Some (record { binders = b.binders; target = a }) else None
statement_with b _ = None

abbrev pub statement_read : Declarations → StatementText → Option Statement
statement_read d t = let b = binders_read d [] t.binders in statement_with b (target_of d b.vars t.target)

abbrev pub target_faults : Option (Answer Fm) → List Fault
target_faults None = []
target_faults (Some a) = answer_faults a

abbrev pub statement_size : ℕ → Option Statement → List Fault
statement_size at None = []
statement_size at (Some s) = size_faults at (closed s)

abbrev pub formulas_faults : Declarations → ℕ → StatementText → List Fault
formulas_faults d at t =
    let b = binders_read d [] t.binders in
    let target = target_of d b.vars t.target in
    b.faults ++ (target_faults target ++ statement_size at (statement_with b target))
