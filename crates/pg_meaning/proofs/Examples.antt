-- Shapes and their meanings, computed. Each token stands at its number in the text.
use Rattle.std.proofs.Common.{◌≡◌, ℕ, List, [], ◌∷◌, refl}
use Rattle.std.specs.Prelude.{Some, None, codes}
use Rattle.pg_logic.specs.Tree.{Tm, free, bound, nought, succ, app, none, arg, falsum, eq, pred, imp, all, ex}
use Rattle.pg_logic.specs.Declarations.{NamedFunction, by_recursion, by_term, NamedPredicate, Declarations}
use Rattle.pg_grammar.specs.Shapes.{And, Equal, NotEqual, LessEqual, Less, Plus, Times, ForAll, Exists, Word, Plain, Shape, Named, Numeral, Paren, Next, App, Neg, Quant, Binary}
use Rattle.pg_meaning.specs.Scope.{Scope, outermost}
use Rattle.pg_meaning.specs.Faults.{TermSort, FormulaSort, Expected, Unknown, Arity, first_fault}
use Rattle.pg_meaning.specs.Meaning.{term_of, formula_of}

-- ---- a game with `+`, `f` of one argument, the constant `2`, the predicates `≤` and `p` of no argument

abbrev function : List ℕ → ℕ → NamedFunction
function name n = by_recursion name n [] nought nought name name

abbrev predicate : List ℕ → ℕ → NamedPredicate
predicate name n = record { name = name; arity = n; functions_before = 0; body = falsum }

abbrev declared : Declarations
declared = record {
  functions = function (codes "+") 2 ∷ function (codes "f") 1 ∷ by_term (codes "2") (succ (succ nought)) (codes "two_def") ∷ [];
  predicates = predicate (226 ∷ 137 ∷ 164 ∷ []) 2 ∷ predicate (codes "p") 0 ∷ [];
}

-- the variables a, b, a dead one, c
abbrev scope : Scope
scope = outermost (Some (codes "a") ∷ Some (codes "b") ∷ None ∷ Some (codes "c") ∷ []) declared

-- ---- texts

abbrev word : ℕ → List ℕ → Word
word at text = record { at = at; text = text }

abbrev a : ℕ → Shape
a at = Named (word at (codes "a"))

abbrev b : ℕ → Shape
b at = Named (word at (codes "b"))

abbrev c : ℕ → Shape
c at = Named (word at (codes "c"))

abbrev f : ℕ → Shape
f at = Named (word at (codes "f"))

abbrev p : ℕ → Shape
p at = Named (word at (codes "p"))

-- a name that stands for nothing
abbrev z : ℕ → Shape
z at = Named (word at (codes "z"))

abbrev number : ℕ → List ℕ → Shape
number at digits = Numeral (word at digits)

abbrev sum : Tm → Tm → Tm
sum s t = app 0 (arg s (arg t none))

-- ---- what is meant

-- a + (b + c) = a + b + c
associated : formula_of scope (Binary 7 Equal (Binary 1 Plus (a 0) (Paren 2 (Binary 4 Plus (b 3) (c 5)))) (Binary 11 Plus (Binary 9 Plus (a 8) (b 10)) (c 12)))
    ≡ eq (sum (free 0) (sum (free 1) (free 3))) (sum (sum (free 0) (free 1)) (free 3))
associated = refl

-- ∀ a, ∃ b, b = succ a: binders come before variables
abbrev h : Shape
h = Quant 0 ForAll (Plain (record { first = word 1 (codes "a"); others = [] }))
    (Quant 3 Exists (Plain (record { first = word 4 (codes "b"); others = [] })) (Binary 7 Equal (b 6) (Next 8 (a 9))))

hypothesis : formula_of scope h ≡ all (codes "a") (ex (codes "b") (eq (bound 0) (succ (bound 1))))
hypothesis = refl

hypothesis_good : first_fault scope FormulaSort h ≡ None
hypothesis_good = refl

-- ∃ b1, b1 = succ b
given : formula_of scope (Quant 0 Exists (Plain (record { first = word 1 (codes "b1"); others = [] })) (Binary 4 Equal (Named (word 3 (codes "b1"))) (Next 5 (b 6))))
    ≡ ex (codes "b1") (eq (bound 0) (succ (free 1)))
given = refl

-- ∀ a b, a = b: the first name is the outermost binder; of two binders of one name the inner one counts
outermost_first : formula_of scope (Quant 0 ForAll (Plain (record { first = word 1 (codes "a"); others = word 2 (codes "b") ∷ [] })) (Binary 5 Equal (a 4) (b 6)))
    ≡ all (codes "a") (all (codes "b") (eq (bound 1) (bound 0)))
outermost_first = refl

innermost_counts : formula_of scope (Quant 0 ForAll (Plain (record { first = word 1 (codes "f"); others = word 2 (codes "f") ∷ [] })) (Binary 5 Equal (f 4) (a 6)))
    ≡ all (codes "f") (all (codes "f") (eq (bound 0) (free 0)))
innermost_counts = refl

-- behind the quantifier the name is the variable again
left_again : formula_of scope (Binary 7 And (Paren 0 (Quant 1 ForAll (Plain (record { first = word 2 (codes "a"); others = [] })) (Binary 5 Equal (a 4) (a 6)))) (Binary 9 Equal (a 8) (a 10)))
    ≡ Rattle.pg_logic.specs.Tree.and (all (codes "a") (eq (bound 0) (bound 0))) (eq (free 0) (free 0))
left_again = refl

-- a ≠ b, ¬ p, a ≤ 2, f (f 0)
unequal : formula_of scope (Binary 1 NotEqual (a 0) (b 2)) ≡ imp (eq (free 0) (free 1)) falsum
unequal = refl

negation : formula_of scope (Neg 0 (p 1)) ≡ imp (pred 1 none) falsum
negation = refl

at_most : formula_of scope (Binary 1 LessEqual (a 0) (number 2 (codes "2"))) ≡ pred 0 (arg (free 0) (arg (app 2 none) none))
at_most = refl

application : term_of scope (App (f 0) (Paren 1 (App (f 2) (number 3 (codes "0"))))) ≡ app 1 (arg (app 1 (arg nought none)) none)
application = refl

-- arguments stand in order
ordered : term_of scope (App (App (f 0) (a 1)) (b 2)) ≡ app 1 (arg (free 0) (arg (free 1) none))
ordered = refl

-- ---- the first fault

-- a * b: where a formula is wanted it is a term, declared or not; else the sign comes before its operands
product_formula : first_fault scope FormulaSort (Binary 1 Times (a 0) (b 2)) ≡ Some (Expected 0)
product_formula = refl

product_term : first_fault scope TermSort (Binary 1 Times (z 0) (b 2)) ≡ Some (Unknown 1)
product_term = refl

sum_term : first_fault scope TermSort (Binary 1 Plus (z 0) (b 2)) ≡ Some (Unknown 0)
sum_term = refl

-- (a + b), (p) and p + b begin at their first token
in_parentheses : first_fault scope FormulaSort (Paren 0 (Binary 2 Plus (a 1) (b 3))) ≡ Some (Expected 0)
in_parentheses = refl

predicate_operand : first_fault scope TermSort (Binary 1 Plus (a 0) (Paren 2 (p 3))) ≡ Some (Expected 2)
predicate_operand = refl

left_first : first_fault scope FormulaSort (Binary 3 And (Binary 1 Equal (a 0) (z 2)) (Binary 5 Times (a 4) (b 6))) ≡ Some (Unknown 2)
left_first = refl

right_first : first_fault scope FormulaSort (Binary 3 And (p 0) (Binary 5 Times (a 4) (b 6))) ≡ Some (Expected 4)
right_first = refl

-- a name that stands for nothing is neither term nor formula; a dead variable has no name
stranger : first_fault scope FormulaSort (App (z 0) (z 1)) ≡ Some (Unknown 0)
stranger = refl

-- f a b, a b, f, succ a b, and f a b where a formula is wanted; the application comes before its arguments
two_arguments : first_fault scope TermSort (App (App (f 0) (z 1)) (b 2)) ≡ Some (Arity 0 2 1)
two_arguments = refl

variable_argument : first_fault scope TermSort (App (a 0) (b 1)) ≡ Some (Arity 0 1 0)
variable_argument = refl

no_argument : first_fault scope TermSort (f 0) ≡ Some (Arity 0 0 1)
no_argument = refl

two_successors : first_fault scope TermSort (App (Next 0 (a 1)) (b 2)) ≡ Some (Arity 0 2 1)
two_successors = refl

function_formula : first_fault scope FormulaSort (App (App (f 0) (a 1)) (b 2)) ≡ Some (Expected 0)
function_formula = refl

second_argument : first_fault scope TermSort (App (f 0) (Paren 1 (Binary 3 Plus (a 2) (z 4)))) ≡ Some (Unknown 4)
second_argument = refl

-- numbers: 0 is zero, 2 is declared, 3 is not; a number that names a function wants its arguments
undeclared_number : first_fault scope TermSort (number 0 (codes "3")) ≡ Some (Unknown 0)
undeclared_number = refl

leading_zero : first_fault scope TermSort (number 0 (codes "00")) ≡ Some (Unknown 0)
leading_zero = refl

number_function : first_fault (outermost [] (record { functions = function (codes "2") 1 ∷ []; predicates = [] })) TermSort (number 0 (codes "2")) ≡ Some (Arity 0 0 1)
number_function = refl

-- a sign that is declared with another number of parameters, and a predicate that isn't declared
sign_of_one : first_fault (outermost [] (record { functions = function (codes "+") 1 ∷ []; predicates = [] })) TermSort (Binary 3 Plus (z 2) (z 4)) ≡ Some (Arity 3 2 1)
sign_of_one = refl

undeclared_predicate : first_fault scope FormulaSort (Binary 1 Less (z 0) (b 2)) ≡ Some (Unknown 1)
undeclared_predicate = refl

-- an unknown name in a quantifier's body
in_body : first_fault scope FormulaSort (Quant 0 ForAll (Plain (record { first = word 1 (codes "d"); others = [] })) (Binary 4 Equal (Named (word 3 (codes "d"))) (z 5))) ≡ Some (Unknown 5)
in_body = refl
