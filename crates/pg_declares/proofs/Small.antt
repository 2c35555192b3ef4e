-- A term that is read has no more nodes than tokens, and a formula no more than three for each.
use Rattle.std.proofs.Common.{◌≡◌, ◌≤◌, ℕ, ◌+◌, ◌*◌, Bool, true, false, List, [], ◌∷◌, length, sym, subst, arith, length-append}
use Rattle.std.specs.Prelude.{Option, Some, None, if◌then◌else◌}
use Rattle.pg_base.specs.Tokens.{Word as Lexeme}
use Rattle.pg_logic.specs.Tree.{Tm, free, bound, nought, succ, app, Tms, none, arg, Fm, falsum, eq, pred, and, or, imp, all, ex, nodes, nodes_all, nodes_of}
use Rattle.pg_grammar.specs.Shapes.{Sym, Close, Comma, Colon, NatSign, Sign, Implies, Or, And, Equal, NotEqual, LessEqual, Less, Plus, Times, Power, Quantifier, ForAll, Exists, Word, Group, Bracket, Binders, Plain, Typed, Grouped, names, plain, typed, bracketed, all_bracketed, binders, Shape, Named, Numeral, Falsum, Paren, Next, App, Neg, Quant, Binary, spelled}
use Rattle.pg_grammar.specs.Printing.{group_words, bracket_words, binder_words}
use Rattle.pg_meaning.specs.Scope.{Scope, in_body, Thing, Binder, Variable, Function, Predicate, function_named, predicate_named, looked_up, is_zero, sign_text}
use Rattle.pg_meaning.specs.Meaning.{function_term, thing_term, two, with_last, applied, term_of, predicate_formula, thing_formula, holds_at, quantified, bound_by, formula_of}
use Rattle.pg_syntax.specs.Answers.{IsTerm, IsFormula}

thing-nodes : (o : Option Thing) → nodes (thing_term o) ≤ 1
thing-nodes None = omega arith
thing-nodes (Some (Binder i)) = omega arith
thing-nodes (Some (Variable i)) = omega arith
thing-nodes (Some (Function f)) = omega arith
thing-nodes (Some (Predicate p)) = omega arith

function-nodes : (o : Option ℕ) (ts : Tms) → nodes (function_term o ts) ≤ nodes_all ts + 1
function-nodes None ts = omega arith
function-nodes (Some f) ts = omega arith

number-nodes : (b : Bool) (o : Option ℕ) → nodes (if b then nought else function_term o none) ≤ 1
number-nodes true o = omega arith
number-nodes false o = function-nodes o none

last-nodes : (ts : Tms) (t : Tm) → nodes_all (with_last ts t) ≡ nodes_all ts + nodes t
last-nodes none t = omega arith
last-nodes (arg s ts) t = omega (arith, last-nodes ts t)

applied-nodes : (s t : Tm) → nodes (applied s t) ≤ nodes s + nodes t
applied-nodes (app f ts) t = omega (arith, last-nodes ts t)
applied-nodes (free i) t = omega arith
applied-nodes (bound i) t = omega arith
applied-nodes nought t = omega arith
applied-nodes (succ s) t = omega arith

term-nodes : (c : Scope) (s : Shape) → nodes (term_of c s) ≤ length (spelled s)
term-nodes c (Named x) = thing-nodes (looked_up c x.text)
term-nodes c (Numeral n) = number-nodes (is_zero n.text) (function_named c.declared n.text)
term-nodes c (Falsum at) = omega arith
term-nodes c (Paren at s) = omega (arith, term-nodes c s, length-append (spelled s) (Close ∷ []))
term-nodes c (Next at s) = omega (arith, term-nodes c s)
term-nodes c (App f s) = omega (arith, applied-nodes (term_of c f) (term_of c s), term-nodes c f, term-nodes c s, length-append (spelled f) (spelled s))
term-nodes c (Neg at s) = omega arith
term-nodes c (Quant at q b s) = omega arith
term-nodes c (Binary at op l r) =
    omega (arith, function-nodes (function_named c.declared (sign_text op)) (two (term_of c l) (term_of c r)), term-nodes c l, term-nodes c r, length-append (spelled l) (Sign at op ∷ spelled r))

-- ---- formulas

thing-formula : (o : Option Thing) → nodes_of (thing_formula o) ≤ 1
thing-formula None = omega arith
thing-formula (Some (Binder i)) = omega arith
thing-formula (Some (Variable i)) = omega arith
thing-formula (Some (Function f)) = omega arith
thing-formula (Some (Predicate p)) = omega arith

predicate-nodes : (o : Option ℕ) (ts : Tms) → nodes_of (predicate_formula o ts) ≤ nodes_all ts + 1
predicate-nodes None ts = omega arith
predicate-nodes (Some p) ts = omega arith

holds-nodes : (a : Fm) (t : Tm) → nodes_of (holds_at a t) ≤ nodes_of a + nodes t
holds-nodes falsum t = omega arith
holds-nodes (eq s u) t = omega arith
holds-nodes (pred p ts) t = omega (arith, last-nodes ts t)
holds-nodes (and a b) t = omega arith
holds-nodes (or a b) t = omega arith
holds-nodes (imp a b) t = omega arith
holds-nodes (all x a) t = omega arith
holds-nodes (ex x a) t = omega arith

quantified-nodes : (q : Quantifier) (x : List ℕ) (a : Fm) → nodes_of (quantified q x a) ≡ nodes_of a + 1
quantified-nodes ForAll x a = omega arith
quantified-nodes Exists x a = omega arith

bound-nodes : (q : Quantifier) (xs : List Word) (a : Fm) → nodes_of (bound_by q xs a) ≡ length xs + nodes_of a
bound-nodes q [] a = omega arith
bound-nodes q (x ∷ xs) a = omega (arith, quantified-nodes q x.text (bound_by q xs a), bound-nodes q xs a)

-- the names of a quantifier are no more than its symbols
names-length : (xs : List Word) → length (names xs) ≡ length xs
names-length [] = omega arith
names-length (x ∷ xs) = omega (arith, names-length xs)

group-length : (g : Group) → length (group_words g) ≤ length (plain g)
group-length g = omega (arith, names-length g.others)

typed-length : (g : Group) → length (group_words g) ≤ length (typed g)
typed-length g = omega (arith, group-length g, length-append (plain g) (Colon ∷ NatSign ∷ []))

bracket-length : (b : Bracket) → length (group_words b.names) ≤ length (bracketed b)
bracket-length b = omega (arith, typed-length b.names, length-append (typed b.names) (Close ∷ []))

brackets-length : (bs : List Bracket) → length (bracket_words bs) ≤ length (all_bracketed bs)
brackets-length [] = omega arith
brackets-length (b ∷ bs) =
    omega (arith, bracket-length b, brackets-length bs, length-append (bracketed b) (all_bracketed bs), length-append (group_words b.names) (bracket_words bs))

binders-length : (b : Binders) → length (binder_words b) ≤ length (binders b)
binders-length (Plain g) = group-length g
binders-length (Typed g) = typed-length g
binders-length (Grouped bs b) =
    omega (arith, brackets-length bs, bracket-length b, length-append (all_bracketed bs) (bracketed b), length-append (bracket_words bs) (group_words b.names))

formula-nodes : (c : Scope) (s : Shape) → nodes_of (formula_of c s) ≤ 3 * length (spelled s)
formula-nodes c (Named x) = omega (arith, thing-formula (looked_up c x.text))
formula-nodes c (Numeral n) = omega arith
formula-nodes c (Falsum at) = omega arith
formula-nodes c (Paren at s) = omega (arith, formula-nodes c s, length-append (spelled s) (Close ∷ []))
formula-nodes c (Next at s) = omega arith
formula-nodes c (App f s) = omega (arith, holds-nodes (formula_of c f) (term_of c s), formula-nodes c f, term-nodes c s, length-append (spelled f) (spelled s))
formula-nodes c (Neg at s) = omega (arith, formula-nodes c s)
formula-nodes c (Quant at q b s) =
    omega (arith, bound-nodes q (binder_words b) (formula_of (in_body c b) s), binders-length b, formula-nodes (in_body c b) s, length-append (binders b) (Comma ∷ spelled s))
formula-nodes c (Binary at Implies l r) = omega (arith, formula-nodes c l, formula-nodes c r, length-append (spelled l) (Sign at Implies ∷ spelled r))
formula-nodes c (Binary at Or l r) = omega (arith, formula-nodes c l, formula-nodes c r, length-append (spelled l) (Sign at Or ∷ spelled r))
formula-nodes c (Binary at And l r) = omega (arith, formula-nodes c l, formula-nodes c r, length-append (spelled l) (Sign at And ∷ spelled r))
formula-nodes c (Binary at Equal l r) = omega (arith, term-nodes c l, term-nodes c r, length-append (spelled l) (Sign at Equal ∷ spelled r))
formula-nodes c (Binary at NotEqual l r) = omega (arith, term-nodes c l, term-nodes c r, length-append (spelled l) (Sign at NotEqual ∷ spelled r))
formula-nodes c (Binary at LessEqual l r) =
    omega (arith, predicate-nodes (predicate_named c.declared (sign_text LessEqual)) (two (term_of c l) (term_of c r)), term-nodes c l, term-nodes c r, length-append (spelled l) (Sign at LessEqual ∷ spelled r))
formula-nodes c (Binary at Less l r) =
    omega (arith, predicate-nodes (predicate_named c.declared (sign_text Less)) (two (term_of c l) (term_of c r)), term-nodes c l, term-nodes c r, length-append (spelled l) (Sign at Less ∷ spelled r))
formula-nodes c (Binary at Plus l r) = omega (arith, length-append (spelled l) (Sign at Plus ∷ spelled r))
formula-nodes c (Binary at Times l r) = omega (arith, length-append (spelled l) (Sign at Times ∷ spelled r))
formula-nodes c (Binary at Power l r) = omega (arith, length-append (spelled l) (Sign at Power ∷ spelled r))

-- ---- so what is read is small

pub term_small : (c : Scope) (words : List Lexeme) (t : Tm) → IsTerm c words t → nodes t ≤ 8192
term_small c words t is =
    let s = is.spells.shape in
    let few : length (spelled s) ≤ 8192 = subst (λ (syms : List Sym). length syms ≤ 8192) (sym is.spells.spelled.1) is.good.few in
    subst (λ t. nodes t ≤ 8192) is.spells.means (omega (arith, term-nodes c s, few))

pub formula_small : (c : Scope) (words : List Lexeme) (a : Fm) → IsFormula c words a → nodes_of a ≤ 3 * 8192
formula_small c words a is =
    let s = is.spells.shape in
    let few : length (spelled s) ≤ 8192 = subst (λ (syms : List Sym). length syms ≤ 8192) (sym is.spells.spelled.1) is.good.few in
    subst (λ a. nodes_of a ≤ 3 * 8192) is.spells.means (omega (arith, formula-nodes c s, few))
