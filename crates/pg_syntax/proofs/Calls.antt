-- Applications taken apart.
use Rattle.std.proofs.Common.{◌≡◌, ℕ, List, [], ◌∷◌, ◌++◌, Option, refl, ap, sym}
use Rattle.std.specs.Option.{option_or}
use Rattle.pg_meaning.specs.Faults as meaning
use Rattle.pg_syntax.specs.declared.fault.SyntaxFault.{SyntaxFault}
use Rattle.pg_syntax.specs.declared.fault.SyntaxFault.TheVariants.{Expected, Unknown, Arity, Deep, Long, OutOfMemory}
use Rattle.pg_logic.specs.Tree.{app, none, arg, pred}
use Rattle.pg_grammar.specs.Shapes.{Shape, Named, Numeral, Falsum, Paren, Next, App, Neg, Quant, Binary}
use Rattle.pg_meaning.specs.Scope.{Scope}
use Rattle.pg_meaning.specs.Meaning.{with_last, applied, term_of, holds_at, formula_of}
use Rattle.pg_terms.specs.declared.term.Term.{Term}
use Rattle.pg_terms.specs.View.{term, args}
use Rattle.pg_syntax.specs.Steps.{IsFault, head_term, head_formula, arguments}

pub args-push : (ts : List Term) (t : Term) → args (ts ++ t ∷ []) ≡ with_last (args ts) (term t)
args-push [] t = refl
args-push (s ∷ ts) t = ap (arg (term s)) (args-push ts t)

pub function_call : (c : Scope) (s : Shape) (f : ℕ) → app f none ≡ head_term c s → term_of c s ≡ app f (arguments c s)
function_call c (Named x) f e = sym e
function_call c (App g s) f e = ap (λ t. applied t (term_of c s)) (function_call c g f e)
function_call c (Numeral n) f e = cc
function_call c (Falsum at) f e = cc
function_call c (Paren at s) f e = cc
function_call c (Next at s) f e = cc
function_call c (Neg at s) f e = cc
function_call c (Quant at q b s) f e = cc
function_call c (Binary at op l r) f e = cc

pub predicate_call : (c : Scope) (s : Shape) (p : ℕ) → pred p none ≡ head_formula c s → formula_of c s ≡ pred p (arguments c s)
predicate_call c (Named x) p e = sym e
predicate_call c (App g s) p e = ap (λ a. holds_at a (term_of c s)) (predicate_call c g p e)
predicate_call c (Numeral n) p e = cc
predicate_call c (Falsum at) p e = cc
predicate_call c (Paren at s) p e = cc
predicate_call c (Next at s) p e = cc
predicate_call c (Neg at s) p e = cc
predicate_call c (Quant at q b s) p e = cc
predicate_call c (Binary at op l r) p e = cc

pub first_fault : (o p : Option meaning.Fault) (e : SyntaxFault) → IsFault o e → IsFault (option_or o p) e
first_fault o p (Expected at what) h = ap (λ o. option_or o p) h
first_fault o p (Unknown at) h = ap (λ o. option_or o p) h
first_fault o p (Arity at has needs) h = ap (λ o. option_or o p) h
first_fault o p OutOfMemory h = tt
first_fault o p (Deep at) h = absurd h
first_fault o p (Long at) h = absurd h

pub ruleset calls = (args-push, function_call, predicate_call)
