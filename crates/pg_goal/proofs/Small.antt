-- A term that is read has no more nodes than tokens.
use Rattle.std.proofs.Common.{◌≡◌, ◌≤◌, ℕ, ◌+◌, Bool, true, false, List, [], ◌∷◌, length, sym, subst, arith, length-append}
use Rattle.std.specs.Prelude.{Option, Some, None, if◌then◌else◌}
use Rattle.pg_base.specs.Tokens.{Word as Lexeme}
use Rattle.pg_logic.specs.Tree.{Tm, free, bound, nought, succ, app, Tms, none, arg, nodes, nodes_all}
use Rattle.pg_grammar.specs.Shapes.{Sym, Close, Sign, Shape, Named, Numeral, Falsum, Paren, Next, App, Neg, Quant, Binary, spelled}
use Rattle.pg_meaning.specs.Scope.{Scope, Thing, Binder, Variable, Function, Predicate, function_named, looked_up, is_zero, sign_text}
use Rattle.pg_meaning.specs.Meaning.{function_term, thing_term, two, with_last, applied, term_of}
use Rattle.pg_syntax.specs.Answers.{IsTerm}

thing-nodes : (o : Option Thing) → nodes (thing_term o) ≤ 1
thing-nodes None = omega arith
thing-nodes (Some (Binder i)) = omega arith
thing-nodes (Some (Variable i)) = omega arith
thing-nodes (Some (Function f)) = omega arith
thing-nodes (Some (Predicate p)) = omega arith

function-nodes : (o : Option ℕ) (ts : Tms) → nodes (function_term o ts) ≤ nodes_all ts + 1
function-nodes None ts = omega arith
function-nodes (Some f) ts = omega arith

number-nodes : (b : Bool) (o : Option ℕ) → nodes (if b then nought else function_term o none) ≤ 1
number-nodes true o = omega arith
number-nodes false o = function-nodes o none

last-nodes : (ts : Tms) (t : Tm) → nodes_all (with_last ts t) ≡ nodes_all ts + nodes t
last-nodes none t = omega arith
last-nodes (arg s ts) t = omega (arith, last-nodes ts t)

applied-nodes : (s t : Tm) → nodes (applied s t) ≤ nodes s + nodes t
applied-nodes (app f ts) t = omega (arith, last-nodes ts t)
applied-nodes (free i) t = omega arith
applied-nodes (bound i) t = omega arith
applied-nodes nought t = omega arith
applied-nodes (succ s) t = omega arith

term-nodes : (c : Scope) (s : Shape) → nodes (term_of c s) ≤ length (spelled s)
term-nodes c (Named x) = thing-nodes (looked_up c x.text)
term-nodes c (Numeral n) = number-nodes (is_zero n.text) (function_named c.declared n.text)
term-nodes c (Falsum at) = omega arith
term-nodes c (Paren at s) = omega (arith, term-nodes c s, length-append (spelled s) (Close ∷ []))
term-nodes c (Next at s) = omega (arith, term-nodes c s)
term-nodes c (App f s) = omega (arith, applied-nodes (term_of c f) (term_of c s), term-nodes c f, term-nodes c s, length-append (spelled f) (spelled s))
term-nodes c (Neg at s) = omega arith
term-nodes c (Quant at q b s) = omega arith
term-nodes c (Binary at op l r) =
    omega (arith, function-nodes (function_named c.declared (sign_text op)) (two (term_of c l) (term_of c r)), term-nodes c l, term-nodes c r, length-append (spelled l) (Sign at op ∷ spelled r))

-- so a term that is read is small
pub term_small : (c : Scope) (words : List Lexeme) (t : Tm) → IsTerm c words t → nodes t ≤ 8192
term_small c words t is =
    let s = is.spells.shape in
    let few : length (spelled s) ≤ 8192 = subst (λ (syms : List Sym). length syms ≤ 8192) (sym is.spells.spelled.1) is.good.few in
    subst (λ t. nodes t ≤ 8192) is.spells.means (omega (arith, term-nodes c s, few))
