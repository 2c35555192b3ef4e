-- The first fault in the meaning of a shape. A shape comes before its parts, a sign before its operands, an application
-- before its arguments; parts come from the left. Parentheses count for nothing but the place where a shape begins.
use Rattle.std.specs.Prelude.{ℕ, ◌+◌, ◌==◌, Option, Some, None, option_map, if◌then◌else◌}
use Rattle.std.specs.Option.{option_or}
use Rattle.pg_grammar.specs.Shapes.{Op, Plus, Times, Power, Equal, NotEqual, LessEqual, Less, Shape, Named, Numeral, Falsum, Paren, Next, App, Neg, Quant, Binary}
use Rattle.pg_meaning.specs.Scope.{Scope, in_body, Thing, Predicate, looked_up, name_needs, number_needs, sign_needs}

pub data Sort : Type 0 where
  TermSort : Sort
  FormulaSort : Sort

-- A term where a formula is wanted or the reverse, at the shape's first token; a name, a number or a sign that stands for
-- nothing; one that has another number of arguments than it needs. Each has its place.
pub data Fault : Type 0 where
  Expected : ℕ → Fault
  Unknown : ℕ → Fault
  Arity : ℕ → (has needs : ℕ) → Fault

-- ---- sorts

abbrev pub thing_sort : Thing → Sort
thing_sort (Predicate p) = FormulaSort
thing_sort _ = TermSort

abbrev pub sign_sort : Op → Sort
sign_sort Plus = TermSort
sign_sort Times = TermSort
sign_sort Power = TermSort
sign_sort _ = FormulaSort

-- what a sign wants of its operands
abbrev pub operand_sort : Op → Sort
operand_sort Plus = TermSort
operand_sort Times = TermSort
operand_sort Power = TermSort
operand_sort Equal = TermSort
operand_sort NotEqual = TermSort
operand_sort LessEqual = TermSort
operand_sort Less = TermSort
operand_sort _ = FormulaSort

-- what a shape is; a name that stands for nothing has no sort
abbrev pub sort : Scope → Shape → Option Sort
sort c (Named x) = option_map thing_sort (looked_up c x.text)
sort c (Numeral n) = Some TermSort
sort c (Falsum at) = Some FormulaSort
sort c (Paren at s) = sort c s
sort c (Next at s) = Some TermSort
sort c (App f s) = sort c f
sort c (Neg at s) = Some FormulaSort
sort c (Quant at q b s) = Some FormulaSort
sort c (Binary at op l r) = Some (sign_sort op)

-- where its first token stands
abbrev pub beginning : Shape → ℕ
beginning (Named x) = x.at
beginning (Numeral n) = n.at
beginning (Falsum at) = at
beginning (Paren at s) = at
beginning (Next at s) = at
beginning (App f s) = beginning f
beginning (Neg at s) = at
beginning (Quant at q b s) = at
beginning (Binary at op l r) = beginning l

-- ---- the fault of a shape itself, its parts aside

abbrev pub misfit : Sort → Option Sort → ℕ → Option Fault
misfit want None at = None
misfit TermSort (Some TermSort) at = None
misfit FormulaSort (Some FormulaSort) at = None
misfit want (Some other) at = Some (Expected at)

-- of what has so many arguments and needs so many
abbrev pub use_fault : ℕ → (has : ℕ) → Option ℕ → Option Fault
use_fault at has None = Some (Unknown at)
use_fault at has (Some needs) = if has == needs then None else Some (Arity at has needs)

-- of the name, the number, `succ` or the sign that makes the shape, with n arguments more
abbrev pub head_fault : Scope → ℕ → Shape → Option Fault
head_fault c n (Named x) = use_fault x.at n (name_needs c x.text)
head_fault c n (Numeral x) = use_fault x.at n (number_needs c x.text)
head_fault c n (Paren at s) = head_fault c n s
head_fault c n (Next at s) = use_fault at (n + 1) (Some 1)
head_fault c n (App f s) = head_fault c (n + 1) f
head_fault c n (Binary at op l r) = use_fault at 2 (sign_needs c op)
head_fault c n _ = None

-- The first token stands nowhere behind the head. So this order is that of their places, and at one place Expected,
-- Unknown, Arity.
abbrev pub own_fault : Scope → Sort → Shape → Option Fault
own_fault c want s = option_or (misfit want (sort c s) (beginning s)) (head_fault c 0 s)

-- ---- the first fault

-- the shape's own, or else that of its parts
abbrev pub own_or : Scope → Sort → Shape → Option Fault → Option Fault
own_or c want s parts = option_or (own_fault c want s) parts

abbrev pub parts_fault : Scope → Shape → Option Fault
parts_fault c (Named x) = None
parts_fault c (Numeral n) = None
parts_fault c (Falsum at) = None
parts_fault c (Paren at s) = parts_fault c s
parts_fault c (Next at s) = own_or c TermSort s (parts_fault c s)
parts_fault c (App f s) = option_or (parts_fault c f) (own_or c TermSort s (parts_fault c s))
parts_fault c (Neg at s) = own_or c FormulaSort s (parts_fault c s)
parts_fault c (Quant at q b s) = own_or (in_body c b) FormulaSort s (parts_fault (in_body c b) s)
parts_fault c (Binary at op l r) =
    option_or (own_or c (operand_sort op) l (parts_fault c l)) (own_or c (operand_sort op) r (parts_fault c r))

-- the first fault of a shape where this sort is wanted
abbrev pub first_fault : Scope → Sort → Shape → Option Fault
first_fault c want s = own_or c want s (parts_fault c s)
