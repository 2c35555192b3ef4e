-- What is answered of a part of a game text: what it means, or its first fault.
use Rattle.std.specs.Prelude.{ℕ, ◌≡◌, ◌≢◌, Bool, true, List, [], ◌∷◌, All, Option, Some, None, Result, Ok, Err, if◌then◌else◌, nat_lt}
use Rattle.pg_base.specs.Tokens.{Word}
use Rattle.pg_base.specs.Spans.{IsTokenText}
use Rattle.pg_script.specs.View.{words}
use Rattle.pg_forms.specs.declared.parts.Span.{Span}
use Rattle.pg_syntax.specs.Answers.{Answer, Read}
use Rattle.pg_syntax.specs.declared.fault.SyntaxFault.{SyntaxFault}
use Rattle.pg_syntax.specs.declared.fault.SyntaxFault.TheVariants as syntax_fault
use Rattle.pg_gametext.specs.Forms.{Mark, AtMost}
use Rattle.pg_gametext.specs.Faults as text
use Rattle.pg_faults.specs.View.{fault}
use Rattle.pg_arith.specs.declared.declaring.DeclareFault.{DeclareFault}
use Rattle.pg_arith.specs.declared.declaring.DeclareFault.TheVariants as refusal
use Rattle.pg_declares.specs.declared.unread.Undeclared.{Undeclared}
use Rattle.pg_declares.specs.declared.unread.Undeclared.TheVariants as untold
use Rattle.pg_declares.specs.declared.unread.Unread.{Unread}
use Rattle.pg_declares.specs.declared.unread.Unread.TheVariants as why

-- each token's text is one of its kind
abbrev pub AreSpelled : Span → Type 0
AreSpelled s = All (λ (w : Word). IsTokenText w.kind w.text) (words s.tokens.now)

-- each of these tokens has a text
abbrev pub AreNamed : List Word → Type 0
AreNamed ws = All (λ (w : Word). w.text ≢ []) ws

-- what is read, where there is no fault, or else the first fault
abbrev pub Judges : {X Y : Type 0} → (X → Y) → List text.Fault → Option Y → Result X Unread → Type 0
Judges view faults value (Ok x) = (text.least faults ≡ None) × (value ≡ Some (view x))
Judges view faults value (Err (why.Faulty f)) = text.least faults ≡ Some (fault f)
Judges view faults value (Err why.OutOfMemory) = Unit {0}

-- the same of what tokens spell
abbrev pub Reads : {X Y : Type 0} → (X → Y) → Answer Y → Result X Unread → Type 0
Reads view a (Ok x) = a ≡ Read (view x)
Reads view a (Err (why.Faulty f)) = text.answer_faults a ≡ fault f ∷ []
Reads view a (Err why.OutOfMemory) = Unit {0}

-- the fault of a text that is told so by the reader of tokens
abbrev pub IsUnread : SyntaxFault → Unread → Type 0
IsUnread (syntax_fault.Expected at what) (why.Faulty f) = fault f ≡ text.fault at text.Expected
IsUnread (syntax_fault.Unknown at) (why.Faulty f) = fault f ≡ text.fault at text.Unknown
IsUnread (syntax_fault.Arity at has needs) (why.Faulty f) = fault f ≡ text.fault at text.Expected
IsUnread (syntax_fault.Deep at) (why.Faulty f) = fault f ≡ text.fault at (text.Limit text.Nesting 101)
IsUnread (syntax_fault.Long at) (why.Faulty f) = fault f ≡ text.fault at (text.Limit text.Tokens 8193)
IsUnread syntax_fault.OutOfMemory why.OutOfMemory = Unit {0}
IsUnread _ _ = ⊥

-- the fault of a formula of so many nodes and this height
abbrev pub sized : (at nodes height : ℕ) → List text.Fault
sized at nodes height =
    if nat_lt text.node_limit nodes then text.fault at (text.Limit text.Nodes nodes) ∷ []
    else text.fault_if (nat_lt text.height_limit height) at (text.Limit text.Height height)

-- a declaration of what fits is refused for its names, where one is taken, and for want of memory
abbrev pub Refuses : (taken : Bool) → DeclareFault → Type 0
Refuses taken refusal.NameTaken = taken ≡ true
Refuses taken refusal.OutOfMemory = Unit {0}
Refuses taken _ = ⊥

-- the same of what is told
abbrev pub IsTaken : (taken : Bool) → Undeclared → Type 0
IsTaken taken untold.NameTaken = taken ≡ true
IsTaken taken untold.OutOfMemory = Unit {0}

-- the first spelling of a sign that stands in a text so
abbrev pub sign_text : Mark → List ℕ → List ℕ
sign_text m written = elim m [ AtMost ↦ 226 ∷ 137 ∷ 164 ∷ [] | _ ↦ written ]
