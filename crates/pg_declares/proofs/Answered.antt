-- What is answered of a part, from what its tokens spell and its size.
use Rattle.std.proofs.Common.{◌≡◌, List, [], ◌∷◌, ◌++◌, ap, sym, ◌∙◌, Option, Some, None, Err}
use Rattle.pg_syntax.specs.Answers.{Answer, Read, Misshapen, Meaningless, Gives}
use Rattle.pg_syntax.specs.declared.fault.SyntaxFault.{SyntaxFault}
use Rattle.pg_syntax.specs.declared.fault.SyntaxFault.TheVariants as syntax_fault
use Rattle.pg_grammar.specs.Faults as shapes
use Rattle.pg_meaning.specs.Faults as meaning
use Rattle.pg_gametext.specs.Faults as text
use Rattle.pg_gametext.specs.Faults.{least, answer_faults, answer_value}
use Rattle.pg_declares.specs.Judged.{Reads, IsUnread, Judges}
use Rattle.pg_declares.specs.declared.unread.Unread.{Unread}
use Rattle.pg_declares.specs.declared.unread.Unread.TheVariants as why

pub reads_err : {X Y : Type 0} (view : X → Y) (a : Answer Y) (e : SyntaxFault) (u : Unread) → Gives view a (Err e) → IsUnread e u → Reads view a (Err u)
reads_err view a e why.OutOfMemory g is = tt
reads_err view (Misshapen shapes.Expected p) (syntax_fault.Expected at what) (why.Faulty f) g is = ap (λ f. f ∷ []) (cc)
reads_err view (Meaningless (meaning.Expected p)) (syntax_fault.Expected at what) (why.Faulty f) g is = ap (λ f. f ∷ []) (cc)
reads_err view (Read x) (syntax_fault.Expected at what) (why.Faulty f) g is = absurd g
reads_err view a (syntax_fault.Unknown at) (why.Faulty f) g is = ap answer_faults g ∙ ap (λ f. f ∷ []) (sym is)
reads_err view a (syntax_fault.Arity at has needs) (why.Faulty f) g is = ap answer_faults g ∙ ap (λ f. f ∷ []) (sym is)
reads_err view a (syntax_fault.Deep at) (why.Faulty f) g is = ap answer_faults g ∙ ap (λ f. f ∷ []) (sym is)
reads_err view a (syntax_fault.Long at) (why.Faulty f) g is = ap answer_faults g ∙ ap (λ f. f ∷ []) (sym is)
reads_err view a syntax_fault.OutOfMemory (why.Faulty f) g is = absurd is
reads_err view a (syntax_fault.Expected at what) (why.Faulty f) g is = absurd g

-- what is read, and its size has no fault
pub sized_ok : {Y : Type 0} (a : Answer Y) (size : Option Y → List text.Fault) (y : Y) → a ≡ Read y → least (size (Some y)) ≡ None
    → (least (answer_faults a ++ size (answer_value a)) ≡ None) × (answer_value a ≡ Some y)
sized_ok a size y e none = (ap (λ a. least (answer_faults a ++ size (answer_value a))) e ∙ none, ap answer_value e)

-- what is read, and its size has one
pub sized_fault : {Y : Type 0} (a : Answer Y) (size : Option Y → List text.Fault) (y : Y) (f : Option text.Fault) → a ≡ Read y → f ≡ least (size (Some y))
    → least (answer_faults a ++ size (answer_value a)) ≡ f
sized_fault a size y f e is = ap (λ a. least (answer_faults a ++ size (answer_value a))) e ∙ sym is

-- nothing is read
pub refused : {X Y : Type 0} (view : X → Y) (a : Answer Y) (size : Option Y → List text.Fault) (u : Unread) → size None ≡ []
    → Reads view a (Err u) → Judges view (answer_faults a ++ size (answer_value a)) (answer_value a) (Err u)
refused {X = X} {Y = Y} view a size why.OutOfMemory none reads = tt
refused {X = X} {Y = Y} view (Read x) size (why.Faulty f) none reads = absurd (cc)
refused {X = X} {Y = Y} view (Misshapen g at) size (why.Faulty f) none reads = ap (λ l. least (answer_faults {X = Y} (Misshapen g at) ++ l)) none ∙ ap least reads
refused {X = X} {Y = Y} view (Meaningless g) size (why.Faulty f) none reads = ap (λ l. least (answer_faults {X = Y} (Meaningless g) ++ l)) none ∙ ap least reads
