-- What the steps of reading answer.
use Rattle.std.specs.Prelude.{ℕ, ◌+◌, ◌≡◌, ◌≢◌, true, List, [], ◌∷◌, length, map, Option, Some, None, Result, Ok, Err}
use Rattle.std.specs.Option.{option_or}
use Rattle.pg_logic.specs.Tree.{Tm, nought, Tms, none, arg, Fm, falsum, and, or, imp}
use Rattle.pg_grammar.specs.Shapes.{Op, Implies, Or, And, Quantifier, Word, Shape, Named, Numeral, Falsum, Paren, Next, App, Neg, Quant, Binary, can_apply}
use Rattle.pg_grammar.specs.Printing.{binder_words}
use Rattle.pg_meaning.specs.Scope.{Scope, looked_up}
use Rattle.pg_meaning.specs.Faults as meaning
use Rattle.pg_meaning.specs.Meaning.{thing_term, thing_formula, with_last, quantified, term_of}
use Rattle.pg_syntax.specs.declared.fault.SyntaxFault.{SyntaxFault}
use Rattle.pg_syntax.specs.declared.fault.SyntaxFault.TheVariants.{Expected, Unknown, Arity, Deep, Long, OutOfMemory}

-- ---- answers

-- this is the fault of a meaning, or memory ran out
abbrev pub IsFault : Option meaning.Fault → SyntaxFault → Type 0
IsFault fault (Expected at what) = fault ≡ Some (meaning.Expected at)
IsFault fault (Unknown at) = fault ≡ Some (meaning.Unknown at)
IsFault fault (Arity at has needs) = fault ≡ Some (meaning.Arity at has needs)
IsFault fault (Deep at) = ⊥
IsFault fault (Long at) = ⊥
IsFault fault OutOfMemory = Unit {0}

-- a result is what is meant where there is no fault, and else the fault
abbrev pub Yields : {X Y : Type 0} → (X → Y) → Option meaning.Fault → Y → Result X SyntaxFault → Type 0
Yields view fault y (Ok x) = (fault ≡ None) × (view x ≡ y)
Yields view fault y (Err e) = IsFault fault e

-- the first fault of a shape that begins at this byte, the parentheses around it included
abbrev pub fault_from : Scope → meaning.Sort → ℕ → Shape → Option meaning.Fault
fault_from c want at s = option_or (option_or (meaning.misfit want (meaning.sort c s) at) (meaning.head_fault c 0 s)) (meaning.parts_fault c s)

-- ---- applications

-- what a function's name at the head stands for, and a predicate's
abbrev pub head_term : Scope → Shape → Tm
head_term c (Named x) = thing_term (looked_up c x.text)
head_term c (App f s) = head_term c f
head_term c _ = nought

abbrev pub head_formula : Scope → Shape → Fm
head_formula c (Named x) = thing_formula (looked_up c x.text)
head_formula c (App f s) = head_formula c f
head_formula c _ = falsum

abbrev pub arguments : Scope → Shape → Tms
arguments c (App f s) = with_last (arguments c f) (term_of c s)
arguments c (Next at s) = arg (term_of c s) none
arguments c _ = none

-- ---- what is known of a shape that was read

-- how many nodes and names it has
abbrev pub nodes : Shape → ℕ
nodes (Named x) = 1
nodes (Numeral n) = 1
nodes (Falsum at) = 1
nodes (Paren at s) = nodes s + 1
nodes (Next at s) = nodes s + 1
nodes (App f s) = nodes f + nodes s + 1
nodes (Neg at s) = nodes s + 1
nodes (Quant at q b s) = length (binder_words b) + nodes s + 1
nodes (Binary at op l r) = nodes l + nodes r + 1

abbrev pub AreTexts : List Word → Type 0
AreTexts [] = Unit {0}
AreTexts (x ∷ xs) = (x.text ≢ []) × AreTexts xs

-- arguments follow a name, `succ` or arguments, and no name of a binder is empty
abbrev pub IsReadable : Shape → Type 0
IsReadable (Named x) = Unit {0}
IsReadable (Numeral n) = Unit {0}
IsReadable (Falsum at) = Unit {0}
IsReadable (Paren at s) = IsReadable s
IsReadable (Next at s) = IsReadable s
IsReadable (App f s) = (can_apply f ≡ true) × IsReadable f × IsReadable s
IsReadable (Neg at s) = IsReadable s
IsReadable (Quant at q b s) = AreTexts (binder_words b) × IsReadable s
IsReadable (Binary at op l r) = IsReadable l × IsReadable r

-- ---- formulas

-- two formulas with a sign between them
abbrev pub joined : Op → Fm → Fm → Fm
joined Implies a b = imp a b
joined Or a b = or a b
joined And a b = and a b
joined _ a b = falsum

abbrev pub texts : List Word → List (List ℕ)
texts xs = map (λ (x : Word). x.text) xs

-- one binder for each name, the first one the outermost
abbrev pub bound_names : Quantifier → List (List ℕ) → Fm → Fm
bound_names q [] a = a
bound_names q (x ∷ xs) a = quantified q x (bound_names q xs a)
