-- What holds of expressions, of the parts of moves, and of runs.
use Rattle.std.specs.Prelude.{ℕ, ◌≡◌, ◌≤◌, ◌<◌, ◌+◌, true, List, [], ◌∷◌, ◌++◌, All, length, map, Ok, Some, None}
use Rattle.pg_logic.specs.Tree.{Tm, Fm, is_tight, is_tight_formula}
use Rattle.pg_logic.specs.Signature.{IsDeclared, fits}
use Rattle.pg_logic.specs.Declarations.{Name, signature_of}
use Rattle.pg_logic.specs.Kernel.{Pf, fault_of, unfolded}
use Rattle.pg_script.specs.Data.{Expression, Shape, Entry, entries_of}
use Rattle.pg_script.specs.Blocks.{steps_of}
use Rattle.pg_syntax.specs.declared.statement.Binder.{Binder}
use Rattle.pg_syntax.specs.Statements.{closed, AreFitting}
use Rattle.pg_worlds.specs.declared.tactic_name.TacticName.{TacticName}
use Rattle.pg_worlds.specs.Inventory.{Inventory}
use Rattle.pg_moves.specs.Goals.{Goal}
use Rattle.pg_moves.specs.First.{first_vars, first_goal}
use Rattle.pg_moves.specs.Lookup.{Lookup, IsAvailable}
use Rattle.pg_moves.specs.Instances.{Values, term_instance, formula_instance, has_hole, has_hole_formula, values_for, MakesTerm, MakesFormula}
use Rattle.pg_moves.specs.Expressions.{token_count, gives_within, gives}
use Rattle.pg_moves.specs.Acts.{Act, acts_of}
use Rattle.pg_moves.specs.Closing.{head_unfolded}
use Rattle.pg_moves.specs.Steps.{new_goals}
use Rattle.pg_moves.specs.Runs.{run, Closed, parts_among}
use Rattle.pg_moves.specs.Proofs.{EachNamed, Sequent, Shows, Fits, hyp_formula, sequent}
use Rattle.pg_moves.specs.Frames.{Frame, Turns}

-- ---- look-ups

-- the declarations stand in order, and each theorem is closed and fits them
pub record IsSound (l : Lookup) : Type 0 where
  pub declared : IsDeclared (signature_of l.declared)
  pub theorems : All (λ a. fits (signature_of l.declared) 0 0 a ≡ true) l.theorems

-- what is in the first inventory is in the second
pub record Within (a b : Inventory) : Type 0 where
  pub tactics : (t : TacticName) → a.tactic t ≡ true → b.tactic t ≡ true
  pub theorems : (k : ℕ) → a.theorem k ≡ true → b.theorem k ≡ true

-- the same look-up with another inventory
abbrev pub wider : Lookup → Inventory → Lookup
wider l b = record { declared = l.declared; theorems = l.theorems; names = l.names; available = b }

-- ---- instances

-- Where some terms make the subject of the pattern, these are the values that are found, of the holes that there are.
-- And where values are found, some terms make it.
abbrev pub TermInstanceLaw : Type 0
TermInstanceLaw = (pattern : Tm) (holes : ℕ) (subject : Tm) → is_tight holes pattern ≡ true →
    ((ts : List Tm) → MakesTerm pattern holes subject ts → term_instance pattern holes subject ≡ Some (values_for (λ i. has_hole i pattern) ts))
    × ((vs : Values) → term_instance pattern holes subject ≡ Some vs → (ts : List Tm) × MakesTerm pattern holes subject ts)

-- the same of formulas
abbrev pub FormulaInstanceLaw : Type 0
FormulaInstanceLaw = (pattern : Fm) (holes : ℕ) (subject : Fm) → is_tight_formula holes pattern ≡ true →
    ((ts : List Tm) → MakesFormula pattern holes subject ts → formula_instance pattern holes subject ≡ Some (values_for (λ i. has_hole_formula i pattern) ts))
    × ((vs : Values) → formula_instance pattern holes subject ≡ Some vs → (ts : List Tm) × MakesFormula pattern holes subject ts)

-- ---- expressions

-- What an expression gives fits the goal's variables. It has a proof by available theorems, which the kernel accepts.
abbrev pub GivenLaw : Type 0
GivenLaw = (l : Lookup) → IsSound l → (g : Goal) → Fits (signature_of l.declared) (sequent g) → (e : Expression) (a : Fm) → gives l g e ≡ Ok a →
    (fits (signature_of l.declared) (length g.vars) 0 a ≡ true)
    × (p : Pf) × Shows (signature_of l.declared) l.theorems (IsAvailable l) (length g.vars) (map hyp_formula g.hyps) a p

-- Each depth above the number of tokens in an expression's arguments gives the same.
abbrev pub NestingLaw : Type 0
NestingLaw = (l : Lookup) (g : Goal) (e : Expression) (deep : ℕ) → token_count e.args < deep → gives_within deep l g e ≡ gives l g e

-- ---- unfolding

-- an unfolded formula that fits has no predicate at its head
abbrev pub UnfoldedLaw : Type 0
UnfoldedLaw = (l : Lookup) (n : ℕ) (a : Fm) → IsDeclared (signature_of l.declared) → fits (signature_of l.declared) n 0 a ≡ true →
    unfolded (signature_of l.declared) (head_unfolded l a) ≡ None

-- ---- the parts of moves

-- a move has as many acts as it has steps in its script
abbrev pub PartsLaw : Type 0
PartsLaw = (head : Name) (shape : Shape) → length (acts_of head shape) ≡ steps_of shape

-- Through these frames, proofs of the new goals make one of the old goal, whatever goals stand behind. The new goals
-- fit, and each has one variable more at most.
pub record Justifies (l : Lookup) (old : Sequent) (new : List Sequent) (frames : List Frame) : Type 0 where
  pub turns : (rest : List Sequent) → Turns (signature_of l.declared) l.theorems (IsAvailable l) frames (old ∷ rest) (new ++ rest)
  pub fitting : All (Fits (signature_of l.declared)) new
  pub few : All (λ (q : Sequent). q.vars ≤ old.vars + 1) new

-- Each act on a goal that fits, with room for two variables more, has such frames.
abbrev pub ActLaw : Type 0
ActLaw = (l : Lookup) → IsSound l → (g : Goal) → Fits (signature_of l.declared) (sequent g) → length g.vars + 1 < 4294967295 →
    (a : Act) (new : List Goal) → new_goals l g a ≡ Ok new → (frames : List Frame) × Justifies l (sequent g) (map sequent new) frames

-- ---- runs

-- Where the run of a statement that fits is closed, the kernel accepts a proof of the closed formula in the empty
-- context. It names available theorems alone. Variables and parts together are fewer than a context may have variables.
abbrev pub ClosedRunLaw : Type 0
ClosedRunLaw = (l : Lookup) → IsSound l → (binders : List Binder) (target : Fm) → AreFitting (signature_of l.declared) 0 binders target →
    (items : List Entry) → length (first_vars binders) + parts_among (entries_of items) < 4294967295 →
    run l (first_goal binders target) items ≡ Closed →
    (p : Pf) × (fault_of (signature_of l.declared) l.theorems p 0 [] (closed binders target) 0 ≡ None) × EachNamed (IsAvailable l) p

-- a closed run stays closed where more is available
abbrev pub StaysClosedLaw : Type 0
StaysClosedLaw = (l : Lookup) (more : Inventory) → Within l.available more → (g : Goal) (items : List Entry) →
    run l g items ≡ Closed → run (wider l more) g items ≡ Closed
