-- The answer behind all binders.
use Rattle.std.proofs.Common.{◌≡◌, ◌∙◌, ℕ, Bool, if◌then◌else◌, List, [], ◌∷◌, ◌++◌, map, Option, Some, None, Result, Ok, Err, refl, sym, ap, subst, length, arith}
use Rattle.std.specs.Prelude.{is_none}
use Rattle.pg_logic.specs.Tree.{Fm}
use Rattle.pg_logic.specs.Declarations.{Name, Declarations}
use Rattle.pg_meaning.specs.Scope.{outermost}
use Rattle.pg_script.specs.Data.{Part}
use Rattle.pg_syntax.specs.Answers.{Answer, Read, Misshapen, Meaningless, formula_answer}
use Rattle.pg_syntax.specs.declared.statement.Statement.{Statement}
use Rattle.pg_gametext.specs.Faults.{Fault, least, answer_faults, size_faults}
use Rattle.pg_gametext.specs.Forms.{StatementText}
use Rattle.pg_gametext.specs.Reading as reading
use Rattle.pg_gametext.specs.Reading.{HalfRead, Binder, binder, binders_read, closed, formula_of_part, statement_with, statement_size, target_faults, target_of}
use Rattle.pg_faults.specs.View.{found, sooner}
use Rattle.pg_faults.proofs.Least.{least-law}
use Rattle.pg_states.specs.declared.draft.Draft.{Draft}
use Rattle.pg_states.specs.declared.formulas.StatementFault.{StatementFault}
use Rattle.pg_states.specs.declared.formulas.StatementFault.TheVariants as its
use Rattle.pg_states.specs.Drafts.{Known, IsDraftOf}
use Rattle.pg_states.specs.Statements.{IsReadWith, IsRead, Tells, IsSized}

abbrev Answered : Type 0
Answered = Result (Option Statement) StatementFault

abbrev all_of : ℕ → HalfRead → Option (Answer Fm) → List Fault
all_of at h target = h.faults ++ (target_faults target ++ statement_size at (statement_with h target))

sooner_none : (o : Option Fault) → sooner o None ≡ o
sooner_none None = refl
sooner_none (Some f) = refl

first_is : (h : HalfRead) (s : Draft) → IsDraftOf h s → least h.faults ≡ found s.first
first_is h s d = ap (λ (k : Known). k.first) d.1

whole_is : (h : HalfRead) (s : Draft) → IsDraftOf h s → h.whole ≡ is_none (found s.first)
whole_is h s d = ap (λ (k : Known). k.whole) d.1

binders_are : (h : HalfRead) (s : Draft) → IsDraftOf h s → h.binders ≡ map binder s.binders.items
binders_are h s d = ap (λ (k : Known). k.binders) d.1

alone : (h : HalfRead) (s : Draft) → IsDraftOf h s → least (h.faults ++ []) ≡ found s.first
alone h s d = least-law h.faults [] ∙ sooner_none (least h.faults) ∙ first_is h s d

pub untargeted : (at : ℕ) (h : HalfRead) (s : Draft) → IsDraftOf h s → least (all_of at h None) ≡ found s.first
untargeted at h s d = alone h s d

pub scope_is : (h : HalfRead) (s : Draft) (d : Declarations) (p : Part) → IsDraftOf h s → formula_of_part h.vars d p ≡ formula_answer (outermost s.names.vars.items d) p.end p.tokens
scope_is h s d p g =
    ap (λ (vs : List Name). formula_answer (outermost (map Some vs) d) p.end p.tokens) (ap (λ (k : Known). k.vars) g.1)
    ∙ ap (λ (xs : List (Option Name)). formula_answer (outermost xs d) p.end p.tokens) g.0

pub told : (at : ℕ) (h : HalfRead) (target : Option (Answer Fm)) (o : Option Fault) (r : Answered) → Tells o r → least (all_of at h target) ≡ o → IsReadWith at h target r
told at h target o (Ok s) t e = elim t [ ]
told at h target o (Err (its.Fault f)) t e = e ∙ t
told at h target o (Err its.OutOfMemory) t e = tt

behind : (h : HalfRead) (s : Draft) (fs : List Fault) (f : Fault) → IsDraftOf h s → fs ≡ f ∷ [] → least (h.faults ++ (fs ++ [])) ≡ sooner (found s.first) (Some f)
behind h s fs f d e =
    ap (λ (l : List Fault). least (h.faults ++ (l ++ []))) e ∙ least-law h.faults (f ∷ []) ∙ ap (λ (o : Option Fault). sooner o (Some f)) (first_is h s d)

nothing_else : (f : Fault) → ◌≡◌ {A = List Fault} [] (f ∷ []) → ⊥
nothing_else f e = omega (arith, ap length e)

pub target_broken : (at : ℕ) (h : HalfRead) (s : Draft) (a : Answer Fm) (f : Fault) → IsDraftOf h s → answer_faults a ≡ f ∷ [] → least (all_of at h (Some a)) ≡ sooner (found s.first) (Some f)
target_broken at h s (Read x) f d e = elim (nothing_else f e) [ ]
target_broken at h s (Misshapen g p) f d e = behind h s (answer_faults {X = Fm} (Misshapen g p)) f d e
target_broken at h s (Meaningless g) f d e = behind h s (answer_faults {X = Fm} (Meaningless g)) f d e

abbrev said_if : HalfRead → Fm → Bool → Option reading.Statement
said_if h x b = if b then Some (record { binders = h.binders; target = x }) else None

pub not_whole : (at : ℕ) (h : HalfRead) (s : Draft) (x : Fm) (f : Fault) → IsDraftOf h s → found s.first ≡ Some f → least (all_of at h (Some (Read x))) ≡ Some f
not_whole at h s x f d e =
    ap (λ (b : Bool). least (h.faults ++ statement_size at (said_if h x b))) (whole_is h s d ∙ ap is_none e) ∙ alone h s d ∙ e

said : (h : HalfRead) (s : Draft) (x : Fm) → IsDraftOf h s → found s.first ≡ None → statement_with h (Some (Read x)) ≡ Some (record { binders = map binder s.binders.items; target = x })
said h s x d e =
    let with_binders : List Binder → Option reading.Statement = λ bs. Some (record { binders = bs; target = x }) in
    ap (said_if h x) (whole_is h s d ∙ ap is_none e) ∙ ap with_binders (binders_are h s d)

size_alone : (at : ℕ) (h : HalfRead) (s : Draft) (x : Fm) → IsDraftOf h s → found s.first ≡ None
    → least (all_of at h (Some (Read x))) ≡ least (size_faults at (closed (record { binders = map binder s.binders.items; target = x })))
size_alone at h s x d e =
    let sizes = size_faults at (closed (record { binders = map binder s.binders.items; target = x })) in
    ap (λ (o : Option reading.Statement). least (h.faults ++ statement_size at o)) (said h s x d e)
    ∙ least-law h.faults sizes
    ∙ ap (λ (o : Option Fault). sooner o (least sizes)) (first_is h s d ∙ e)

pub whole_sized : (at : ℕ) (h : HalfRead) (s : Draft) (x : Fm) (r : Answered) → IsDraftOf h s → found s.first ≡ None → IsSized at (record { binders = map binder s.binders.items; target = x }) r
    → IsReadWith at h (Some (Read x)) r
whole_sized at h s x (Ok t) d e i = (size_alone at h s x d e ∙ i.0, said h s x d e ∙ i.1)
whole_sized at h s x (Err (its.Fault f)) d e i = size_alone at h s x d e ∙ i
whole_sized at h s x (Err its.OutOfMemory) d e i = tt

pub of_answer : (at : ℕ) (h : HalfRead) (x : Fm) (r : Answered) (a : Answer Fm) → a ≡ Read x → IsReadWith at h (Some (Read x)) r → IsReadWith at h (Some a) r
of_answer at h x r a e w = subst (λ (b : Answer Fm). IsReadWith at h (Some b) r) (sym e) w

as_read : (d : Declarations) (at : ℕ) (t : StatementText) (r : Answered) → (let h = binders_read d [] t.binders in IsReadWith at h (target_of d h.vars t.target) r) → IsRead d at t r
as_read d at t (Ok s) w = w
as_read d at t (Err (its.Fault f)) w = w
as_read d at t (Err its.OutOfMemory) w = w

pub read_as : (d : Declarations) (at : ℕ) (t : StatementText) (target : Option Part) (r : Answered) → t.target ≡ target
    → (let h = binders_read d [] t.binders in IsReadWith at h (target_of d h.vars target) r) → IsRead d at t r
read_as d at t target r e w =
    as_read d at t r (subst (λ (o : Option Part). let h = binders_read d [] t.binders in IsReadWith at h (target_of d h.vars o) r) (sym e) w)
