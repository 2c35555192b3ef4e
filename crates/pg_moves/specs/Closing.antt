-- The acts on the form of the target: what new goals each makes of a goal.
use Rattle.std.specs.Prelude.{ℕ, zero, suc, List, [], ◌∷◌, length, Option, Some, None, Ok, Err, if◌then◌else◌}
use Rattle.pg_base.specs.Tokens.{Word}
use Rattle.pg_logic.specs.Tree.{free, Tm, Fm, eq, and, or, imp, all, ex, same, same_formula, opened_formula}
use Rattle.pg_logic.specs.Signature.{Signature}
use Rattle.pg_logic.specs.Declarations.{signature_of}
use Rattle.pg_logic.specs.Kernel.{unfolded}
use Rattle.pg_script.specs.Data.{Part, Expression}
use Rattle.pg_moves.specs.Goals.{Goal, live_names, aimed, with_var, with_hyp}
use Rattle.pg_moves.specs.Causes.{Tried, SidesDiffer, WrongShape, WrongArgument, NotSame, and_then, wanted}
use Rattle.pg_moves.specs.Lookup.{Lookup, given_name}
use Rattle.pg_moves.specs.Expressions.{Given, cause_of, gives, read_term, read_formula, begins}

-- what an expression gives, or the cause of a stop
abbrev pub tried : Given → Tried Fm
tried (Ok a) = Ok a
tried (Err e) = Err (cause_of e)

-- what an expression gives in a goal
abbrev pub given : Lookup → Goal → Expression → Tried Fm
given l g e = tried (gives l g e)

-- the term, the formula that stands there
abbrev pub term_there : Lookup → Goal → Part → Tried Tm
term_there l g p = wanted (read_term l g p) (WrongArgument (begins p))

-- the formula that the tokens are, or else the cause at the first of them
abbrev pub formula_there : Lookup → Goal → Part → Tried Fm
formula_there l g p = wanted (read_formula l g p) (WrongArgument (begins p))

-- ---- unfolding

-- a formula, or what is made of its body where it has one
abbrev pub form_at : Fm → (Fm → Fm) → Option Fm → Fm
form_at a more None = a
form_at a more (Some b) = more b

-- a predicate at the head is replaced by its body, at most so often
abbrev pub unfolded_within : ℕ → Signature → Fm → Fm
unfolded_within zero s a = a
unfolded_within (suc n) s a = form_at a (unfolded_within n s) (unfolded s a)

-- until the head is none: a body is over the predicates before its own
abbrev pub head_unfolded : Lookup → Fm → Fm
head_unfolded l a = let s = signature_of l.declared in unfolded_within (length s.predicates) s a

-- the unfolded target
abbrev pub goal_form : Lookup → Goal → Fm
goal_form l g = head_unfolded l g.target

-- ---- the acts

-- no goal is left where the two sides are one term
abbrev pub sides_same : Tm → Tm → Tried (List Goal)
sides_same s t = if same s t then Ok [] else Err (SidesDiffer s t)

-- `rfl`
abbrev pub reflexivity : Fm → Tried (List Goal)
reflexivity (eq s t) = sides_same s t
reflexivity _ = Err WrongShape

-- `exact e`
abbrev pub closed_by : Fm → Fm → Tried (List Goal)
closed_by target a = if same_formula a target then Ok [] else Err (NotSame a)

-- `exact e`
abbrev pub exactly : Lookup → Goal → Expression → Tried (List Goal)
exactly l g e = and_then (given l g e) (closed_by g.target)

-- `intro x`
abbrev pub intro_of : Lookup → Goal → Word → Fm → Tried (List Goal)
intro_of l g x (all y a) = and_then (given_name l (live_names g) x) (λ n. Ok (aimed (opened_formula (free (length g.vars)) a) (with_var n g) ∷ []))
intro_of l g x (imp a b) = and_then (given_name l (live_names g) x) (λ n. Ok (aimed b (with_hyp n a g) ∷ []))
intro_of l g x _ = Err WrongShape

-- `left`, `right`, `constructor`
abbrev pub left_of : Goal → Fm → Tried (List Goal)
left_of g (or a b) = Ok (aimed a g ∷ [])
left_of g _ = Err WrongShape

-- `right`: the right side is left to show
abbrev pub right_of : Goal → Fm → Tried (List Goal)
right_of g (or a b) = Ok (aimed b g ∷ [])
right_of g _ = Err WrongShape

-- `constructor`: both sides, a goal each
abbrev pub both_of : Goal → Fm → Tried (List Goal)
both_of g (and a b) = Ok (aimed a g ∷ aimed b g ∷ [])
both_of g _ = Err WrongShape

-- `use t`
abbrev pub witness_of : Goal → Tm → Fm → Tried (List Goal)
witness_of g t (ex x a) = Ok (aimed (opened_formula t a) g ∷ [])
witness_of g t _ = Err WrongShape

-- `use t`: the term is read before the target is looked at
abbrev pub witnessed : Lookup → Goal → Part → Tried (List Goal)
witnessed l g p = and_then (term_there l g p) (λ t. witness_of g t (goal_form l g))
