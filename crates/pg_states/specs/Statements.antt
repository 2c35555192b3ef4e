-- What is answered to the text of a statement.
use Rattle.std.specs.Prelude.{◌≡◌, ◌≢◌, ℕ, List, [], ◌∷◌, ◌++◌, All, Option, Some, None, option_map, Result, Ok, Err}
use Rattle.pg_base.specs.Tokens.{Word}
use Rattle.pg_base.specs.Spans.{IsTokenText}
use Rattle.pg_logic.specs.Tree.{Fm}
use Rattle.pg_logic.specs.Declarations.{Declarations}
use Rattle.pg_script.specs.View.{words}
use Rattle.pg_base.specs.declared.token.Token.{Token}
use Rattle.pg_syntax.specs.Answers.{Answer, Read}
use Rattle.pg_syntax.specs.declared.statement.Statement.{Statement}
use Rattle.pg_terms.specs.declared.formula.Formula.{Formula}
use Rattle.pg_terms.specs.View.{formula}
use Rattle.pg_game.specs.View.{statement}
use Rattle.pg_gametext.specs.Faults as text
use Rattle.pg_gametext.specs.Faults.{least, answer_faults, size_faults}
use Rattle.pg_gametext.specs.Forms.{StatementText}
use Rattle.pg_forms.specs.declared.parts.Span.{Span}
use Rattle.pg_forms.specs.declared.parts.BinderText.{BinderText}
use Rattle.pg_forms.specs.declared.parts.BinderText.TheVariants as binders
use Rattle.pg_gametext.specs.Reading as reading
use Rattle.pg_gametext.specs.Reading.{HalfRead, closed, formulas_faults, statement_read, statement_with, statement_size, target_faults}
use Rattle.pg_faults.specs.View.{fault}
use Rattle.pg_states.specs.declared.formulas.StatementFault.{StatementFault}
use Rattle.pg_states.specs.declared.formulas.StatementFault.TheVariants as its

-- the answer's formula, or its one fault
abbrev pub Formulates : Answer Fm → Result Formula StatementFault → Type 0
Formulates a (Ok x) = a ≡ Read (formula x)
Formulates a (Err (its.Fault f)) = answer_faults a ≡ fault f ∷ []
Formulates a (Err its.OutOfMemory) = Unit {0}

-- ---- what the tokens of a statement are

abbrev pub AreTexts : List Word → Type 0
AreTexts ws = All (λ (w : Word). IsTokenText w.kind w.text) ws

-- no name is empty, and each token of a formula has a text of its kind
abbrev pub IsNamed : Token → Type 0
IsNamed t = t.text.now ≢ []

abbrev pub IsReadable : BinderText → Type 0
IsReadable (binders.Variables tokens) = All IsNamed tokens.now
IsReadable (binders.Hypothesis h s) = IsNamed h × AreTexts (words s.tokens.now)

abbrev pub IsReadableSpan : Option Span → Type 0
IsReadableSpan None = Unit {0}
IsReadableSpan (Some s) = AreTexts (words s.tokens.now)

-- ---- the answer

-- Without a fault the answer is what is read, where the target is there; else it is the first fault of the formulas and
-- of the size of the closed formula.
abbrev pub IsReadWith : ℕ → HalfRead → Option (Answer Fm) → Result (Option Statement) StatementFault → Type 0
IsReadWith at h target (Ok s) = (least (h.faults ++ (target_faults target ++ statement_size at (statement_with h target))) ≡ None) × (statement_with h target ≡ option_map statement s)
IsReadWith at h target (Err (its.Fault f)) = least (h.faults ++ (target_faults target ++ statement_size at (statement_with h target))) ≡ Some (fault f)
IsReadWith at h target (Err its.OutOfMemory) = Unit {0}

-- the same of the text of a statement
abbrev pub IsRead : Declarations → ℕ → StatementText → Result (Option Statement) StatementFault → Type 0
IsRead d at t (Ok s) = (least (formulas_faults d at t) ≡ None) × (statement_read d t ≡ option_map statement s)
IsRead d at t (Err (its.Fault f)) = least (formulas_faults d at t) ≡ Some (fault f)
IsRead d at t (Err its.OutOfMemory) = Unit {0}

-- the answer is this fault
abbrev pub Tells : Option text.Fault → Result (Option Statement) StatementFault → Type 0
Tells first (Ok s) = ⊥
Tells first (Err (its.Fault f)) = first ≡ Some (fault f)
Tells first (Err its.OutOfMemory) = Unit {0}

-- the answer is this statement, or the fault of its size
abbrev pub IsSized : ℕ → reading.Statement → Result (Option Statement) StatementFault → Type 0
IsSized at said (Ok s) = (least (size_faults at (closed said)) ≡ None) × (Some said ≡ option_map statement s)
IsSized at said (Err (its.Fault f)) = least (size_faults at (closed said)) ≡ Some (fault f)
IsSized at said (Err its.OutOfMemory) = Unit {0}
