-- The term or formula that a shape means. Nothing is said of a shape that has a fault: it stands for 0 or for False.
use Rattle.std.specs.Prelude.{ℕ, List, [], ◌∷◌, Option, Some, None, if◌then◌else◌}
use Rattle.pg_logic.specs.Tree.{Tm, free, bound, nought, succ, app, Tms, none, arg, Fm, falsum, eq, pred, and, or, imp, all, ex}
use Rattle.pg_grammar.specs.Shapes.{Op, Implies, Or, And, Equal, NotEqual, LessEqual, Less, Quantifier, ForAll, Exists, Word, Shape, Named, Numeral, Paren, Next, App, Neg, Quant, Binary}
use Rattle.pg_grammar.specs.Printing.{binder_words}
use Rattle.pg_meaning.specs.Scope.{Scope, in_body, Thing, Binder, Variable, Function, Predicate, function_named, predicate_named, looked_up, is_zero, sign_text}

-- ---- terms

abbrev pub function_term : Option ℕ → Tms → Tm
function_term None ts = nought
function_term (Some f) ts = app f ts

abbrev pub thing_term : Option Thing → Tm
thing_term (Some (Binder i)) = bound i
thing_term (Some (Variable i)) = free i
thing_term (Some (Function f)) = app f none
thing_term _ = nought

abbrev pub number_term : Scope → List ℕ → Tm
number_term c text = if is_zero text then nought else function_term (function_named c.declared text) none

abbrev pub two : Tm → Tm → Tms
two s t = arg s (arg t none)

abbrev pub sign_term : Scope → Op → Tm → Tm → Tm
sign_term c op s t = function_term (function_named c.declared (sign_text op)) (two s t)

-- one argument more, the last
abbrev pub with_last : Tms → Tm → Tms
with_last none t = arg t none
with_last (arg s ss) t = arg s (with_last ss t)

abbrev pub applied : Tm → Tm → Tm
applied (app f ts) t = app f (with_last ts t)
applied s t = s

abbrev pub term_of : Scope → Shape → Tm
term_of c (Named x) = thing_term (looked_up c x.text)
term_of c (Numeral n) = number_term c n.text
term_of c (Paren at s) = term_of c s
term_of c (Next at s) = succ (term_of c s)
term_of c (App f s) = applied (term_of c f) (term_of c s)
term_of c (Binary at op l r) = sign_term c op (term_of c l) (term_of c r)
term_of c _ = nought

-- ---- formulas

abbrev pub predicate_formula : Option ℕ → Tms → Fm
predicate_formula None ts = falsum
predicate_formula (Some p) ts = pred p ts

abbrev pub thing_formula : Option Thing → Fm
thing_formula (Some (Predicate p)) = pred p none
thing_formula _ = falsum

abbrev pub sign_formula : Scope → Op → Tm → Tm → Fm
sign_formula c op s t = predicate_formula (predicate_named c.declared (sign_text op)) (two s t)

abbrev pub holds_at : Fm → Tm → Fm
holds_at (pred p ts) t = pred p (with_last ts t)
holds_at a t = a

-- ¬ A is A → False
abbrev pub denied : Fm → Fm
denied a = imp a falsum

abbrev pub quantified : Quantifier → List ℕ → Fm → Fm
quantified ForAll x a = all x a
quantified Exists x a = ex x a

-- one binder for each name, the first one the outermost
abbrev pub bound_by : Quantifier → List Word → Fm → Fm
bound_by q [] a = a
bound_by q (x ∷ xs) a = quantified q x.text (bound_by q xs a)

abbrev pub formula_of : Scope → Shape → Fm
formula_of c (Named x) = thing_formula (looked_up c x.text)
formula_of c (Paren at s) = formula_of c s
formula_of c (App f s) = holds_at (formula_of c f) (term_of c s)
formula_of c (Neg at s) = denied (formula_of c s)
formula_of c (Quant at q b s) = bound_by q (binder_words b) (formula_of (in_body c b) s)
formula_of c (Binary at Implies l r) = imp (formula_of c l) (formula_of c r)
formula_of c (Binary at Or l r) = or (formula_of c l) (formula_of c r)
formula_of c (Binary at And l r) = and (formula_of c l) (formula_of c r)
formula_of c (Binary at Equal l r) = eq (term_of c l) (term_of c r)
formula_of c (Binary at NotEqual l r) = denied (eq (term_of c l) (term_of c r))
formula_of c (Binary at LessEqual l r) = sign_formula c LessEqual (term_of c l) (term_of c r)
formula_of c (Binary at Less l r) = sign_formula c Less (term_of c l) (term_of c r)
formula_of c _ = falsum
