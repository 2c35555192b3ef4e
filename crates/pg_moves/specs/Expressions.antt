-- What an expression gives in a goal: the formula of a name, taken at its arguments one by one.
use Rattle.std.specs.Prelude.{ℕ, zero, suc, ◌+◌, List, [], ◌∷◌, length, nat_lt, Option, Some, None, slice_get, Result, Ok, Err, if◌then◌else◌}
use Rattle.pg_base.specs.Tokens.{Word}
use Rattle.pg_logic.specs.Tree.{Tm, Fm, imp, all, same_formula, opened_formula, nodes_of}
use Rattle.pg_script.specs.Data.{Part, Expression}
use Rattle.pg_script.specs.Lines.{exact_at}
use Rattle.pg_script.specs.Marks.{place}
use Rattle.pg_syntax.specs.Answers.{Answer, Read as ReadsAs, term_answer, formula_answer}
use Rattle.pg_moves.specs.Goals.{Goal, Hyp, scope, hypothesis_named}
use Rattle.pg_moves.specs.Causes.{Cause, NoSuchName as NoSuchNameCause, LockedTheorem, WrongArgument as WrongArgumentCause, TooLarge as TooLargeCause, Nodes, and_then, wanted}
use Rattle.pg_moves.specs.Lookup.{Lookup, theorem_named}

-- why an expression gives nothing: no such name; theorem of a number not available; an argument of another form; an
-- argument too many; a formula of so many nodes
pub data ExprFault : Type 0 where
  NoSuchName : (at : ℕ) → ExprFault
  Locked : (at theorem : ℕ) → ExprFault
  WrongArgument : (at : ℕ) → ExprFault
  TooManyArguments : (at : ℕ) → ExprFault
  TooLarge : (size : ℕ) → ExprFault

-- the formula that is given, or why there is none
abbrev pub Given : Type 0
Given = Result Fm ExprFault

-- the cause of a stop
abbrev pub cause_of : ExprFault → Cause
cause_of (NoSuchName at) = NoSuchNameCause at
cause_of (Locked at theorem) = LockedTheorem theorem
cause_of (WrongArgument at) = WrongArgumentCause at
cause_of (TooManyArguments at) = WrongArgumentCause at
cause_of (TooLarge size) = TooLargeCause Nodes size

-- ---- what tokens are read as

-- the tree, where tokens are read as one
abbrev pub tree_of : {X : Type 0} → Answer X → Option X
tree_of (ReadsAs x) = Some x
tree_of _ = None

-- the value, where there is one
abbrev pub ok_of : {X E : Type 0} → Result X E → Option X
ok_of (Ok x) = Some x
ok_of (Err e) = None

-- tokens as a term over the live variables of a goal
abbrev pub read_term : Lookup → Goal → Part → Option Tm
read_term l g p = tree_of (term_answer (scope l.declared g) p.end p.tokens)

-- tokens as a formula over them
abbrev pub read_formula : Lookup → Goal → Part → Option Fm
read_formula l g p = tree_of (formula_answer (scope l.declared g) p.end p.tokens)

-- tokens as an expression
abbrev pub read_expression : Part → Option Expression
read_expression p = ok_of (exact_at p.end p.tokens)

-- where a part begins
abbrev pub begins : Part → ℕ
begins p = place p.end p.tokens

-- ---- what is given

-- a formula of at most 4,096 nodes
abbrev pub small : Fm → Given
small a = let n = nodes_of a in if nat_lt 4096 n then Err (TooLarge n) else Ok a

-- theorem k, where it is available
abbrev pub theorem_given : Lookup → (at k : ℕ) → Given
theorem_given l at k = if l.available.theorem k then wanted (slice_get l.theorems k) (NoSuchName at) else Err (Locked at k)

-- the formula of a hypothesis
abbrev pub hypothesis_given : (at : ℕ) → Option Hyp → Given
hypothesis_given at None = Err (NoSuchName at)
hypothesis_given at (Some h) = Ok h.formula

-- the theorem of a name
abbrev pub theorem_name_given : Lookup → (at : ℕ) → Option ℕ → Given
theorem_name_given l at None = Err (NoSuchName at)
theorem_name_given l at (Some k) = theorem_given l at k

-- a name is that of live hypothesis i, or else of a theorem; only then it is asked whether the theorem is available
abbrev pub name_given : Lookup → Goal → Word → Option ℕ → Given
name_given l g w (Some i) = hypothesis_given w.at (slice_get g.hyps i)
name_given l g w None = theorem_name_given l w.at (theorem_named l w.text)

-- what a name gives: it is looked up among the live hypotheses, then among all theorems
abbrev pub named_given : Lookup → Goal → Word → Given
named_given l g w = name_given l g w (hypothesis_named g w.text)

-- what an argument gives has to be the same as the antecedent
abbrev pub same_given : (at : ℕ) → (antecedent rest : Fm) → Fm → Given
same_given at antecedent rest a = if same_formula a antecedent then Ok rest else Err (WrongArgument at)

-- A formula at one argument: ∀ takes a term, → an expression that gives its left side. Within the argument,
-- expressions give what `inner` says.
abbrev pub at_argument : Lookup → Goal → (Expression → Given) → Fm → Part → Given
at_argument l g inner (all x a) p = and_then (wanted (read_term l g p) (WrongArgument (begins p))) (λ t. small (opened_formula t a))
at_argument l g inner (imp a b) p =
    and_then (wanted (read_expression p) (WrongArgument (begins p))) (λ e. and_then (inner e) (λ c. and_then (same_given (begins p) a b c) small))
at_argument l g inner _ p = Err (TooManyArguments (begins p))

-- a formula at arguments, one after the other
abbrev pub at_arguments : Lookup → Goal → (Expression → Given) → List Part → Fm → Given
at_arguments l g inner [] a = Ok a
at_arguments l g inner (p ∷ ps) a = and_then (at_argument l g inner a p) (at_arguments l g inner ps)

-- expressions nested at most so deep
abbrev pub gives_within : ℕ → Lookup → Goal → Expression → Given
gives_within zero l g e = Err (WrongArgument e.name.at)
gives_within (suc deep) l g e =
    and_then (named_given l g e.name) (λ a. and_then (small a) (at_arguments l g (gives_within deep l g) e.args))

-- how many tokens these parts have together
abbrev pub token_count : List Part → ℕ
token_count [] = 0
token_count (p ∷ ps) = length p.tokens + token_count ps

-- An expression within an argument has fewer tokens than the argument: so deep they are nested at most.
unfoldable pub gives : Lookup → Goal → Expression → Given
gives l g e = gives_within (suc (token_count e.args)) l g e
