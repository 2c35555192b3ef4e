-- One binder more.
use Rattle.std.proofs.Math.Seq.{drop-cons}
use Rattle.pg_meaning.specs.Scope.{outermost}
use Rattle.pg_script.specs.Data.{Part}
use Rattle.pg_gametext.specs.Forms.{BinderText, variables}
use Rattle.std.proofs.Common.{◌≡◌, ℕ, ◌+◌, ◌<◌, length, get_or, drop, add-one, arith, false, ◌&&◌, List, [], ◌∷◌, ◌++◌, map, Option, Some, None, refl, sym, ap, subst, Err, ◌∙◌}
use Rattle.std.specs.Prelude.{is_none}
use Rattle.pg_logic.specs.Declarations.{Name, Declarations}
use Rattle.pg_logic.specs.Tree.{Fm}
use Rattle.pg_base.specs.Tokens.{Word}
use Rattle.pg_gametext.specs.Faults.{Fault, least, answer_faults}
use Rattle.pg_gametext.specs.Reading.{HalfRead, Binder, var, hyp, texts, with_formula, with_variables, binders_read, formula_of_part}
use Rattle.pg_syntax.specs.Answers.{Answer, Read, Misshapen, Meaningless, formula_answer}
use Rattle.pg_faults.specs.View.{sooner}
use Rattle.pg_faults.specs.Laws.{LeastLaw}
use Rattle.pg_faults.specs.declared.fault.Fault.{Fault as RustFault}
use Rattle.pg_faults.specs.View.{fault}
use Rattle.pg_states.specs.declared.formulas.StatementFault.{StatementFault}
use Rattle.pg_states.specs.declared.formulas.StatementFault.TheVariants as its
use Rattle.pg_states.specs.Statements.{Formulates}
use Rattle.pg_states.specs.Drafts.{live, Known, known}

pub appended : {X : Type 0} (xs ys zs : List X) → (xs ++ ys) ++ zs ≡ xs ++ (ys ++ zs)
appended [] ys zs = refl
appended (x ∷ xs) ys zs = ap (λ l. x ∷ l) (appended xs ys zs)

pub live_more : (xs : List (Option Name)) (ys : List Name) → live (xs ++ map Some ys) ≡ live xs ++ ys
live_more [] [] = refl
live_more [] (y ∷ ys) = ap (λ l. y ∷ l) (live_more [] ys)
live_more (None ∷ xs) ys = live_more xs ys
live_more (Some x ∷ xs) ys = ap (λ l. x ∷ l) (live_more xs ys)

some_more : (xs ys : List Name) → map Some (xs ++ ys) ≡ map Some xs ++ map Some ys
some_more [] ys = refl
some_more (x ∷ xs) ys = ap (λ l. Some x ∷ l) (some_more xs ys)

-- no variable is dead with more of them
pub still_live : (xs : List (Option Name)) (ys : List Name) → map Some (live xs) ≡ xs → map Some (live (xs ++ map Some ys)) ≡ xs ++ map Some ys
still_live xs ys e = ap (map Some) (live_more xs ys) ∙ some_more (live xs) ys ∙ ap (λ l. l ++ map Some ys) e

-- a formula that is read
pub known_read : (bs : List Binder) (o : Option Fault) (h : Name) (vars : List Name) (a : Answer Fm) (x : Fm) (rest : HalfRead) → a ≡ Read x
    → known (bs ++ hyp h x ∷ []) o rest ≡ known bs o (with_formula h vars a rest)
known_read bs o h vars a x rest e =
    ap (λ l. record { vars = rest.vars; binders = l; first = sooner o (least rest.faults); whole = is_none o && rest.whole }) (appended bs (hyp h x ∷ []) rest.binders)
    ∙ ap (λ b. known bs o (with_formula h vars b rest)) (sym e)

-- what is known where a formula has these faults
abbrev broken : List Binder → Option Fault → HalfRead → List Fault → Known
broken bs o rest fs = record { vars = rest.vars; binders = bs ++ rest.binders; first = sooner o (least (fs ++ rest.faults)); whole = is_none o && false }

joined : LeastLaw → (bs : List Binder) (o : Option Fault) (f : Fault) (rest : HalfRead) → known bs (sooner o (Some f)) rest ≡ broken bs o rest (f ∷ [])
joined law bs None f rest = refl
joined law bs (Some g) f rest =
    let cut : Option Fault → Known = λ l. record { vars = rest.vars; binders = bs ++ rest.binders; first = l; whole = false } in
    ap cut (sym (law (g ∷ f ∷ []) rest.faults))

nothing_else : (f : Fault) → ◌≡◌ {A = List Fault} [] (f ∷ []) → ⊥
nothing_else f e = omega (arith, ap length e)

-- a formula that is broken
known_broken : LeastLaw → (bs : List Binder) (o : Option Fault) (h : Name) (vars : List Name) (a : Answer Fm) (f : Fault) (rest : HalfRead) → answer_faults a ≡ f ∷ []
    → known bs (sooner o (Some f)) rest ≡ known bs o (with_formula h vars a rest)
known_broken law bs o h vars (Read x) f rest e = elim (nothing_else f e) [ ]
known_broken law bs o h vars (Misshapen g at) f rest e = joined law bs o f rest ∙ ap (broken bs o rest) (sym e)
known_broken law bs o h vars (Meaningless g) f rest e = joined law bs o f rest ∙ ap (broken bs o rest) (sym e)

pub hypothesis_broken : LeastLaw → (bs : List Binder) (o r : Option Fault) (h : Name) (xs : List (Option Name)) (d : Declarations) (p : Part) (f : Fault) (rest : HalfRead)
    → map Some (live xs) ≡ xs → answer_faults (formula_answer (outermost xs d) p.end p.tokens) ≡ f ∷ [] → r ≡ sooner o (Some f)
    → known bs r rest ≡ known bs o (with_formula h (live xs) (formula_of_part (live xs) d p) rest)
hypothesis_broken law bs o r h xs d p f rest alive e is =
    ap (λ q. known bs q rest) is
    ∙ known_broken law bs o h (live xs) (formula_of_part (live xs) d p) f rest (ap (λ (ys : List (Option Name)). answer_faults (formula_answer (outermost ys d) p.end p.tokens)) alive ∙ e)

-- variables
pub known_variables : (bs : List Binder) (o : Option Fault) (ws : List Word) (rest : HalfRead)
    → known (bs ++ map (λ (w : Word). var w.text) ws) o rest ≡ known bs o (with_variables ws rest)
known_variables bs o ws rest =
    ap (λ l. record { vars = rest.vars; binders = l; first = sooner o (least rest.faults); whole = is_none o && rest.whole }) (appended bs (map (λ (w : Word). var w.text) ws) rest.binders)

pub live_behind : (xs new : List (Option Name)) (ys : List Name) → new ≡ xs ++ map Some ys → map Some (live xs) ≡ xs → map Some (live new) ≡ new
live_behind xs new ys e alive = ap (λ (l : List (Option Name)). map Some (live l)) e ∙ still_live xs ys alive ∙ sym e

pub known_behind : (d : Declarations) (xs new : List (Option Name)) (bs others : List Binder) (o q : Option Fault) (ws : List Word) (more : List BinderText)
    → new ≡ xs ++ map Some (texts ws) → others ≡ bs ++ map (λ (w : Word). var w.text) ws → q ≡ o
    → known others q (binders_read d (live new) more) ≡ known bs o (binders_read d (live xs) (variables ws ∷ more))
known_behind d xs new bs others o q ws more names binders first =
    let all = bs ++ map (λ (w : Word). var w.text) ws in
    ap (λ (l : List Binder). known l q (binders_read d (live new) more)) binders
    ∙ ap (λ (l : Option Fault). known all l (binders_read d (live new) more)) first
    ∙ ap (λ (l : List Name). known all o (binders_read d l more)) (ap live names ∙ live_more xs (texts ws))
    ∙ known_variables bs o ws (binders_read d (live xs ++ texts ws) more)

-- the fault that is answered
pub fault_of : (a : Answer Fm) (e : StatementFault) (f : RustFault) → e ≡ its.Fault f → Formulates a (Err e) → answer_faults a ≡ fault f ∷ []
fault_of a e f is h = subst (λ (x : StatementFault). Formulates a (Err x)) is h

-- ---- turns of loops

pub dropped : {T : Type 0} (ts : List T) (i : ℕ) (d : T) → i < length ts → drop i ts ≡ get_or ts i d ∷ drop (i + 1) ts
dropped ts i d lt = drop-cons ts i d lt ∙ ap (λ k. get_or ts i d ∷ drop k ts) (sym (add-one i))

pub turn : {X : Type 0} (old new whole : List X) (x : X) (now later : List X) → now ≡ x ∷ later → new ≡ old ++ x ∷ [] → old ++ now ≡ whole → new ++ later ≡ whole
turn old new whole x now later is more before = ap (λ l. l ++ later) more ∙ appended old (x ∷ []) later ∙ ap (λ l. old ++ l) (sym is) ∙ before

pub dropped_as : {T : Type 0} (ts : List T) (i : ℕ) (t : T) → i < length ts → t ≡ get_or ts i t → drop i ts ≡ t ∷ drop (i + 1) ts
dropped_as ts i t lt is = dropped ts i t lt ∙ ap (λ x. x ∷ drop (i + 1) ts) (sym is)
