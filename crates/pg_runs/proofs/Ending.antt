-- A closed run's proof.
use Rattle.std.proofs.Common.{◌≡◌, ℕ, arith, ◌+◌, ◌^◌, ◌<◌, ◌≤◌, ◌++◌, map, Bool, true, false, ◌||◌, [], ◌∷◌, List, length, Some, None, refl, sym, ap, ◌∙◌, subst}
use Rattle.std.specs.Prelude.{IsTrue, slice_get, Result, Ok, Err}
use Rattle.std.specs.List.{AllByRecursion}
use Rattle.std.proofs.lemmas.List.Elements.{All-from_recursion}
use Rattle.std.proofs.lemmas.Bool.{eqb-true, and_parts, and_from}
use Rattle.pg_logic.specs.Tree.{Tm, free, bound, nought, succ, app, Tms, none, arg, Fm, falsum, eq, pred, and, or, imp, all, ex, nodes_of, is_tight, are_tight, is_tight_formula}
use Rattle.pg_logic.specs.Signature.{count, Function, Signature, takes, holds_of, fits, fits_term, fits_terms}
use Rattle.pg_logic.specs.Declarations.{signature_of}
use Rattle.pg_logic.specs.Kernel.{Pf, hyp, thm, andi, andl, andr, orl, orr, ore, impi, impe, fale, lem, alli, alle, exi, exe, reflexive, repl, ind, predi, prede}
use Rattle.pg_terms.specs.View.{formula}
use Rattle.pg_kernel.specs.Names.{is_named}
use Rattle.pg_kernel.specs.View.{proof}
use Rattle.pg_kernel.specs.declared.proof.Proof.{Proof}
use Rattle.pg_syntax.specs.declared.statement.Statement.{Statement}
use Rattle.pg_syntax.specs.declared.statement.Binder.{Binder}
use Rattle.pg_syntax.specs.declared.statement.Binder.TheVariants.{Var, Hyp}
use Rattle.pg_syntax.specs.Statements.{closed, total, AreFitting, AreTight}
use Rattle.pg_moves.specs.Lookup.{Lookup, IsAvailable}
use Rattle.pg_moves.specs.Proofs.{EachNamed, hyp_formula}
use Rattle.pg_moves.specs.Frames.{Frame, built, top, introduced}
use Rattle.pg_moves.specs.First.{first_vars, first_hyps, first_goal}
use Rattle.pg_moves.specs.Goals as moves
use Rattle.pg_moves.specs.Measures.{formulas}
use Rattle.pg_moves.specs.Runs.{Ran, run, outcome, run_items, parts_among}
use Rattle.pg_script.specs.Data.{Entry, Entries, entries_of}
use Rattle.pg_script.specs.View.{entry}
use Rattle.pg_script.specs.declared.item.Item.{Item}
use Rattle.pg_moves.specs.Laws.{IsSound}
use Rattle.pg_logic.proofs.Fitting.{fits-le}
use Rattle.pg_moves.proofs.Finish.{turn-first, finished}
use Rattle.pg_runs.specs.Asked.{CanRun, asked, IsProof}
use Rattle.pg_runs.specs.State.{goals_of, Leads, HasRoom, HaveRoom, Carries}
use Rattle.pg_frames.specs.View.{frames_of}
use Rattle.pg_runs.specs.declared.state.State.{State}
use Rattle.pg_runs.specs.declared.running.Outcome.{Outcome}
use Rattle.pg_runs.specs.Running.{Ends, StopsAt, StopsSo}
use Rattle.pg_runs.specs.declared.running.Stop.{Stop}

module _ (Q : ℕ → Type 0) (k : ℕ) where
  both : (a b : Bool) → IsTrue (a || b) → (IsTrue a → Q k) → (IsTrue b → Q k) → Q k
  both true b t f g = f refl
  both false b t f g = g t

  -- what holds of each theorem that a proof names
  named : (p : Pf) → EachNamed Q p → IsTrue (is_named k p) → Q k
  named (hyp i) e t = absurd (cc)
  named (thm i) e t = subst Q (eqb-true i k t) e
  named (andi p q) e t = both (is_named k p) (is_named k q) t (named p e.0) (named q e.1)
  named (andl b p) e t = named p e t
  named (andr a p) e t = named p e t
  named (orl p) e t = named p e t
  named (orr p) e t = named p e t
  named (ore a b p q r) e t =
      both (is_named k p || is_named k q) (is_named k r) t (λ u. both (is_named k p) (is_named k q) u (named p e.0) (named q e.1)) (named r e.2)
  named (impi p) e t = named p e t
  named (impe a p q) e t = both (is_named k p) (is_named k q) t (named p e.0) (named q e.1)
  named (fale p) e t = named p e t
  named lem e t = absurd (cc)
  named (alli p) e t = named p e t
  named (alle a x p) e t = named p e t
  named (exi x p) e t = named p e t
  named (exe a p q) e t = both (is_named k p) (is_named k q) t (named p e.0) (named q e.1)
  named reflexive e t = absurd (cc)
  named (repl a s x p q) e t = both (is_named k p) (is_named k q) t (named p e.0) (named q e.1)
  named (ind a x p q) e t = both (is_named k p) (is_named k q) t (named p e.0) (named q e.1)
  named (predi p) e t = named p e t
  named (prede a p) e t = named p e t

-- the frames make a proof
proves : (l : Lookup) (st : Statement) (fs : List Frame) → Leads l fs (asked st ∷ []) [] → (p : Pf) × (top (built fs []) ≡ Some p) × IsProof l st p
proves l st fs leads =
    let x = finished (signature_of l.declared) l.theorems (IsAvailable l) fs (closed st.binders.items (formula st.target)) (leads []) in
    (x.0, x.1, record { accepted = x.2; available = λ k t. named (IsAvailable l) k x.0 x.3 t })

-- what is put together is that proof
pub is_proof : (l : Lookup) (st : Statement) (fs : List Frame) (p : Proof) → Leads l fs (asked st ∷ []) [] → Some (proof p) ≡ top (built fs []) → IsProof l st (proof p)
is_proof l st fs p leads e =
    let x = proves l st fs leads in
    let same : x.0 ≡ proof p = cc in
    subst (IsProof l st) same x.2

-- there is one
pub no_none : (l : Lookup) (st : Statement) (fs : List Frame) → Leads l fs (asked st ∷ []) [] → None ≡ top (built fs []) → ⊥
no_none l st fs leads e = let x = proves l st fs leads in cc

-- ---- what fits has no loose bound variable

mutual
  tight-term : (fs : List Function) (n d : ℕ) (t : Tm) → fits_term fs n d t ≡ true → is_tight d t ≡ true
  tight-term fs n d (free i) e = refl
  tight-term fs n d (bound i) e = e
  tight-term fs n d nought e = refl
  tight-term fs n d (succ t) e = tight-term fs n d t e
  tight-term fs n d (app f ts) e = tight-terms fs n d ts ((and_parts (takes (slice_get fs f) (count ts)) (fits_terms fs n d ts) e).1)

  tight-terms : (fs : List Function) (n d : ℕ) (ts : Tms) → fits_terms fs n d ts ≡ true → are_tight d ts ≡ true
  tight-terms fs n d none e = refl
  tight-terms fs n d (arg t ts) e = let k = and_parts (fits_term fs n d t) (fits_terms fs n d ts) e in and_from _ _ (tight-term fs n d t k.0) (tight-terms fs n d ts k.1)

tight-formula : (s : Signature) (n d : ℕ) (a : Fm) → fits s n d a ≡ true → is_tight_formula d a ≡ true
tight-formula s n d falsum e = refl
tight-formula s n d (eq a b) e = let k = and_parts (fits_term s.functions n d a) (fits_term s.functions n d b) e in and_from _ _ (tight-term s.functions n d a k.0) (tight-term s.functions n d b k.1)
tight-formula s n d (pred p ts) e = tight-terms s.functions n d ts ((and_parts (holds_of (slice_get s.predicates p) (count ts)) (fits_terms s.functions n d ts) e).1)
tight-formula s n d (and a b) e = let k = and_parts (fits s n d a) (fits s n d b) e in and_from _ _ (tight-formula s n d a k.0) (tight-formula s n d b k.1)
tight-formula s n d (or a b) e = let k = and_parts (fits s n d a) (fits s n d b) e in and_from _ _ (tight-formula s n d a k.0) (tight-formula s n d b k.1)
tight-formula s n d (imp a b) e = let k = and_parts (fits s n d a) (fits s n d b) e in and_from _ _ (tight-formula s n d a k.0) (tight-formula s n d b k.1)
tight-formula s n d (all x a) e = tight-formula s n (d + 1) a e
tight-formula s n d (ex x a) e = tight-formula s n (d + 1) a e

pub tight : (s : Signature) (n : ℕ) (bs : List Binder) (c : Fm) → AreFitting s n bs c → AreTight bs c
tight s n [] c f = tight-formula s n 0 c f
tight s n (Var x ∷ bs) c f = tight s (n + 1) bs c f
tight s n (Hyp h a ∷ bs) c f = (tight-formula s n 0 (formula a) f.0, tight s n bs c f.1)

-- ---- where a run begins and ends

-- the frames of the binders lead from the statement's formula to its first goal
pub begins : (l : Lookup) (st : Statement) → IsSound l → AreFitting (signature_of l.declared) 0 st.binders.items (formula st.target) → length (first_vars st.binders.items) ≤ 4294967295 →
    Leads l (introduced st.binders.items) (asked st ∷ []) (first_goal st.binders.items (formula st.target) ∷ [])
begins l st ok f le below = turn-first (signature_of l.declared) l.theorems (IsAvailable l) below st.binders.items (formula st.target) le f

-- ---- the room that a run begins with

hyps-fit : (s : Signature) (k n : ℕ) (bs : List Binder) (c : Fm) → n ≡ k + length (first_vars bs) → AreFitting s k bs c →
    AllByRecursion (λ a. fits s n 0 a ≡ true) (map hyp_formula (first_hyps bs)) × (fits s n 0 c ≡ true)
hyps-fit s k n [] c e f = (tt, fits-le s k n 0 0 c (omega (arith, e)) (omega arith) f)
hyps-fit s k n (Var x ∷ bs) c e f = hyps-fit s (k + 1) n bs c (omega (arith, e)) f
hyps-fit s k n (Hyp h a ∷ bs) c e f = let r = hyps-fit s k n bs c e f.1 in ((fits-le s k n 0 0 (formula a) (omega (arith, e)) (omega arith) f.0, r.0), r.1)

few-hyps : (bs : List Binder) (c : Fm) → length (first_hyps bs) ≤ total bs c
few-hyps [] c = omega arith
few-hyps (Var x ∷ bs) c = let q = few-hyps bs c in omega (arith, q)
few-hyps (Hyp h a ∷ bs) c = let q = few-hyps bs c in omega (arith, q)

small : (m : ℕ) (bs : List Binder) (c : Fm) → total bs c < m → AllByRecursion (λ a. nodes_of a < m) (map (λ (h : moves.Hyp). h.formula) (first_hyps bs) ++ c ∷ [])
small m [] c lt = (lt, tt)
small m (Var x ∷ bs) c lt = small m bs c (omega (arith, lt))
small m (Hyp h a ∷ bs) c lt = (omega (arith, lt), small m bs c (omega (arith, lt)))

pub has_room : (l : Lookup) (st : Statement) (es : Entries) → CanRun l st es → HaveRoom l (parts_among es) (first_goal st.binders.items (formula st.target) ∷ [])
has_room l st es can =
    let s = signature_of l.declared in
    let bs = st.binders.items in
    let c = formula st.target in
    let f = hyps-fit s 0 (length (first_vars bs)) bs c (omega arith) can.fits in
    let few = few-hyps bs c in
    All-from_recursion (HasRoom l (parts_among es)) (first_goal bs c ∷ []) (
      record {
        fits = (All-from_recursion (λ a. fits s (length (first_vars bs)) 0 a ≡ true) (map hyp_formula (first_hyps bs)) f.0, f.1);
        vars = can.vars;
        hyps = omega (arith, few, can.nodes);
        nodes = All-from_recursion (λ a. nodes_of a < 2 ^ 29) (formulas (first_goal bs c)) (small (2 ^ 29) bs c can.nodes);
      },
      tt,
    )

-- a run that stops
pub stopped_so : (r : Ran) (s : Stop) → StopsAt r s → StopsSo (outcome r) s
stopped_so (Ok gs) s q = absurd q
stopped_so (Err x) s q = q

-- ---- the whole run

run-is : (l : Lookup) (first : moves.Goal) (items : List Entry) → run l first items ≡ outcome (run_items l (entries_of items) 0 (first ∷ []))
unfolding run
run-is l first items = refl

module _ (l : Lookup) (st : Statement) (items xs : List Item) (gs : List moves.Goal) (same : xs ≡ items) (one : gs ≡ first_goal st.binders.items (formula st.target) ∷ []) where
  ran : run l (first_goal st.binders.items (formula st.target)) (map entry items) ≡ outcome (run_items l (entries_of (map entry xs)) 0 gs)
  ran =
      run-is l (first_goal st.binders.items (formula st.target)) (map entry items)
      ∙ ap (λ gs. outcome (run_items l (entries_of (map entry items)) 0 gs)) (sym one) ∙ ap (λ its. outcome (run_items l (entries_of (map entry its)) 0 gs)) (sym same)

  pub ends_ok : (E : Type 0) (new : List moves.Goal) (r : Result Outcome E) → run_items l (entries_of (map entry xs)) 0 gs ≡ Ok new → Ends l st (outcome (Ok new)) r →
      Ends l st (run l (first_goal st.binders.items (formula st.target)) (map entry items)) r
  ends_ok E new r is e = subst (λ o. Ends l st o r) (sym (ran ∙ ap outcome is)) e

  pub ends_stopped : (s : Stop) → StopsAt (run_items l (entries_of (map entry xs)) 0 gs) s → StopsSo (run l (first_goal st.binders.items (formula st.target)) (map entry items)) s
  ends_stopped s q = subst (λ o. StopsSo o s) (sym ran) (stopped_so (run_items l (entries_of (map entry xs)) 0 gs) s q)

-- the frames of the whole
pub leads_whole : (l : Lookup) (st : Statement) (k : ℕ) (old new : State) → IsSound l → AreFitting (signature_of l.declared) 0 st.binders.items (formula st.target) → length (first_vars st.binders.items) ≤ 4294967295 →
    frames_of old.frames ≡ introduced st.binders.items → goals_of old.goals ≡ first_goal st.binders.items (formula st.target) ∷ [] → Carries l k old new → Leads l (frames_of new.frames) (asked st ∷ []) (goals_of new.goals)
leads_whole l st k old new ok f le frames goals c =
    c.leads (asked st ∷ []) (subst (λ fs. Leads l fs (asked st ∷ []) (goals_of old.goals)) (sym frames) (subst (Leads l (introduced st.binders.items) (asked st ∷ [])) (sym goals) (begins l st ok f le)))
