-- What is known of the expression within an argument, and of an expression's name.
use Rattle.std.proofs.Common.{◌≡◌, ◌≤◌, ◌<◌, ℕ, zero, suc, List, [], ◌∷◌, ◌++◌, length, map, get_or, ap, sym, subst, ◌∙◌, arith, Some}
use Rattle.std.specs.Prelude.{Result, Ok, Err, IsErr, IsErrAnd, All}
use Rattle.std.specs.List.{AllByRecursion}
use Rattle.std.proofs.lemmas.List.Elements.{All-from_recursion, recursion_from_All}
use Rattle.std.proofs.lemmas.List.{length-map}
use Rattle.pg_base.specs.Tokens.{Word, word}
use Rattle.pg_base.specs.Spans.{IsTokenText}
use Rattle.pg_logic.specs.Tree.{Fm}
use Rattle.pg_script.specs.declared.item.Piece.{Piece}
use Rattle.pg_script.specs.Data.{Part, Expression}
use Rattle.pg_script.specs.Forms.{AreArguments, no_argument, argument, IsExpression, applied, enclosed}
use Rattle.pg_script.specs.Lines.{exact_at}
use Rattle.pg_script.specs.View.{part}
use Rattle.pg_script.proofs.Phrases.{exact_found}
use Rattle.pg_moves.specs.Goals.{Goal}
use Rattle.pg_moves.specs.Lookup.{Lookup}
use Rattle.pg_moves.specs.Causes.{and_then}
use Rattle.pg_moves.specs.Expressions as moves
use Rattle.pg_moves.specs.Expressions.{small, named_given, at_arguments, gives, token_count, read_expression, ok_of}
use Rattle.pg_moves.proofs.Counted.{read-long}
use Rattle.pg_goal.specs.declared.expression.Given.{Given}
use Rattle.pg_goal.specs.declared.expression.ExprFault.{ExprFault}
use Rattle.pg_goal.specs.declared.expression.ExprFault.TheVariants.{NoSuchName, Locked, WrongArgument, TooManyArguments, TooLarge, OutOfMemory}
use Rattle.pg_goal.specs.Answers.{Gives}
use Rattle.pg_goal.specs.Conditions.{AreTexts}
use Rattle.pg_goal.proofs.Arguments.{gives_from}

-- ---- the texts of tokens

abbrev IsText : Word → Type 0
IsText w = IsTokenText w.kind w.text

front-of : (xs ys : List Word) → AllByRecursion IsText (xs ++ ys) → AllByRecursion IsText xs
front-of [] ys t = tt
front-of (x ∷ xs) ys t = (t.0, front-of xs ys t.1)

back-of : (xs ys : List Word) → AllByRecursion IsText (xs ++ ys) → AllByRecursion IsText ys
back-of [] ys t = t
back-of (x ∷ xs) ys t = back-of xs ys t.1

arguments-texts : {end depth : ℕ} {ws next : List Word} {ps : List Part} → AreArguments end depth ws next ps → AllByRecursion IsText ws → AllByRecursion (λ (p : Part). All IsText p.tokens) ps
arguments-texts (no_argument next) t = tt
arguments-texts (argument ws vs next ps a k) t = (All-from_recursion IsText ws (front-of ws vs t), arguments-texts k (back-of ws vs t))

expression-texts : {end depth : ℕ} {ws next : List Word} {e : Expression} → IsExpression end depth ws next e → AllByRecursion IsText ws → AllByRecursion (λ (p : Part). All IsText p.tokens) e.args
expression-texts (applied depth w ws next args h a) t = arguments-texts a t.1
expression-texts (enclosed depth o c ws next e ho hc lt i) t = expression-texts i (front-of ws (c ∷ []) t.1)

read-ok : {X E : Type 0} {x : X} (r : Result X E) → ok_of r ≡ Some x → r ≡ Ok x
read-ok (Ok y) e = let q : y ≡ _ = cc in ap Ok q
read-ok (Err c) e = absurd (cc)

-- the arguments within an argument have the texts of their kinds
pub inner_texts : (p : Part) (e : Expression) → read_expression p ≡ Some e → All IsText p.tokens → AreTexts e.args
inner_texts p e is t =
    All-from_recursion (λ (p : Part). All IsText p.tokens) e.args (expression-texts (exact_found p.end p.tokens e (read-ok (exact_at p.end p.tokens) is)) (recursion_from_All IsText p.tokens t))

texts-there : (args : List Piece) (k : ℕ) (x : Piece) → k < length args → x ≡ get_or args k x → AllByRecursion (λ (p : Part). All IsText p.tokens) (map part args) → All IsText (part x).tokens
texts-there [] k x lt is t = absurd (omega (arith, lt))
texts-there (y ∷ ys) zero x lt is t = subst (λ (z : Piece). All IsText (part z).tokens) (sym is) t.0
texts-there (y ∷ ys) (suc k) x lt is t = texts-there ys k x (omega (arith, lt)) is t.1

-- each argument has the texts of its tokens' kinds
pub texts_there : (args : List Piece) (k : ℕ) (x : Piece) → k < length args → x ≡ get_or args k x → AreTexts (map part args) → All IsText (part x).tokens
texts_there args k x lt is t = texts-there args k x lt is (recursion_from_All (λ (p : Part). All IsText p.tokens) (map part args) t)

-- ---- how many tokens

-- an expression within an argument has fewer tokens in its arguments
pub inner_fewer : (x : Piece) (e : Expression) → read_expression (part x) ≡ Some e → token_count e.args < length x.tokens
inner_fewer x e is = let q = read-long (part x) e is in let n = length-map x.tokens word in omega (arith, q, n)

-- an argument has no more tokens than all of them
pub argument_long : (args : List Piece) (k : ℕ) (x : Piece) → k < length args → x ≡ get_or args k x → length x.tokens ≤ token_count (map part args)
argument_long [] k x lt is = absurd (omega (arith, lt))
argument_long (y ∷ ys) zero x lt is = let e = ap (λ (z : Piece). length z.tokens) is in let n = length-map y.tokens word in omega (arith, e, n)
argument_long (y ∷ ys) (suc k) x lt is = let e = argument_long ys k x (omega (arith, lt)) is in omega (arith, e)

-- ---- the name

-- the name's fault is that of the expression
pub name_fault : (l : Lookup) (g : Goal) (e : Expression) (f : ExprFault) → Gives (and_then (named_given l g e.name) small) (Err f) → Gives (gives l g e) (Err f)
name_fault l g e (NoSuchName at) h = gives_from l g e ∙ ap (λ r. and_then r (at_arguments l g (gives l g) e.args)) h
name_fault l g e (Locked at k) h = gives_from l g e ∙ ap (λ r. and_then r (at_arguments l g (gives l g) e.args)) h
name_fault l g e (WrongArgument at) h = gives_from l g e ∙ ap (λ r. and_then r (at_arguments l g (gives l g) e.args)) h
name_fault l g e (TooManyArguments at) h = gives_from l g e ∙ ap (λ r. and_then r (at_arguments l g (gives l g) e.args)) h
name_fault l g e (TooLarge n) h = gives_from l g e ∙ ap (λ r. and_then r (at_arguments l g (gives l g) e.args)) h
name_fault l g e OutOfMemory h = tt

-- a fault that is handed on
pub handed_on : (want : Result Fm moves.ExprFault) (f : ExprFault) (r : Result Given ExprFault) → IsErr r × IsErrAnd r (λ e. e ≡ f) → Gives want (Err f) → Gives want r
handed_on want f (Ok x) is h = cc
handed_on want f (Err e) is h = subst (λ e. Gives want (Err e)) (sym is.1) h

-- the name's formula is taken at the arguments
pub name_first : (l : Lookup) (g : Goal) (e : Expression) (a : Fm) → and_then (named_given l g e.name) small ≡ Ok a → at_arguments l g (gives l g) e.args a ≡ gives l g e
name_first l g e a h = sym (gives_from l g e ∙ ap (λ r. and_then r (at_arguments l g (gives l g) e.args)) h)
