-- Items and blocks by what their parts answer.
use Rattle.std.proofs.Common.{◌≡◌, ℕ, zero, suc, ◌+◌, ◌-◌, ◌*◌, ◌^◌, min, ◌<◌, List, [], ◌∷◌, ◌++◌, length, map, get_or, take, drop, Bool, true, false, Some, refl, sym, ap, ◌∙◌, subst, inr, arith}
use Rattle.std.specs.Prelude.{IsTrue, Result, Ok, Err, IsErr, IsErrAnd, slice_get}
use Rattle.std.proofs.lemmas.List.{map-append, length-map}
use Rattle.std.proofs.lemmas.List.Elements.{All-from_recursion, recursion_from_All}
use Rattle.std.proofs.lemmas.Bool.{false≢true}
use Rattle.std.proofs.lemmas.Grind.{take_at_read}
use Rattle.pg_script.specs.Data.{Entry, Entries, hint, entries_of}
use Rattle.pg_script.specs.View.{entry, entry_step, remark}
use Rattle.pg_script.specs.declared.item.HintItem.{HintItem}
use Rattle.pg_script.specs.declared.item.Item.{Item, Hint}
use Rattle.pg_script.specs.declared.item.Item.TheOpen.{Item-F}
use Rattle.pg_script.specs.declared.item.Item.TheVariants.{rolls-Hint}
use Rattle.pg_script.specs.declared.item.Item.TheFolds.{fold-roll-Item}
use Rattle.pg_moves.specs.Causes.{and_then, LeftOpen}
use Rattle.pg_moves.specs.Goals as moves
use Rattle.pg_moves.specs.Lookup.{Lookup}
use Rattle.pg_moves.specs.Runs.{Ran, hinted, focused, after_focus, run_item, run_items, items_in, items_among, parts_in, parts_among}
use Rattle.pg_goal.specs.View.{goal_of}
use Rattle.pg_goal.specs.declared.goal.Goal.{Goal}
use Rattle.pg_frames.specs.View.{frame_of, frames_of}
use Rattle.pg_reduction.specs.declared.cause.Cause.TheVariants as rust
use Rattle.pg_runs.specs.State.{goals_of, Leads, HasRoom, HaveRoom, Carries}
use Rattle.pg_runs.specs.Running.{IsTold, Runs, StopsAt}
use Rattle.pg_runs.specs.Written.{AreWritten, AreWrittenIn}
use Rattle.pg_runs.specs.declared.state.State.{State}
use Rattle.pg_runs.specs.declared.running.Halt.{Halt}
use Rattle.pg_runs.specs.declared.running.Halt.TheVariants as halt
use Rattle.pg_runs.specs.declared.running.Stop.{Stop}
use Rattle.pg_runs.proofs.Carrying.{leads_stay, leads_then, leads_before, less}
use Rattle.pg_runs.proofs.Playing.{room_less, carries_then}

-- the items that a list of Rust stands for
abbrev pub E : List Item → Entries
E its = entries_of (map entry its)

parts-split : (xs ys : List Entry) → parts_among (entries_of (xs ++ ys)) ≡ parts_among (entries_of xs) + parts_among (entries_of ys)
parts-split [] ys = omega arith
parts-split (x ∷ xs) ys = let p = parts-split xs ys in omega (arith, p)

items-split : (xs ys : List Entry) → items_among (entries_of (xs ++ ys)) ≡ items_among (entries_of xs) + items_among (entries_of ys)
items-split [] ys = omega arith
items-split (x ∷ xs) ys = let p = items-split xs ys in omega (arith, p)

written-in : (xs : List Entry) (x : Entry) (ys : List Entry) → AreWritten (entries_of (xs ++ x ∷ ys)) → AreWrittenIn x
written-in [] x ys w = w.0
written-in (z ∷ xs) x ys w = written-in xs x ys w.1

split-suc : (its : List Item) (i : ℕ) (it : Item) → i < length its → it ≡ get_or its i it → its ≡ take i its ++ it ∷ drop (suc i) its
split-suc [] i it lt e = absurd (omega (arith, lt))
split-suc (x ∷ xs) zero it lt e = ap (λ z. z ∷ xs) (sym e)
split-suc (x ∷ xs) (suc i) it lt e = ap (λ zs. x ∷ zs) (split-suc xs i it (omega (arith, lt)) e)

drop-suc : (its : List Item) (i : ℕ) (it : Item) → i < length its → it ≡ get_or its i it → drop i its ≡ it ∷ drop (suc i) its
drop-suc [] i it lt e = absurd (omega (arith, lt))
drop-suc (x ∷ xs) zero it lt e = ap (λ z. z ∷ xs) (sym e)
drop-suc (x ∷ xs) (suc i) it lt e = drop-suc xs i it (omega (arith, lt)) e

next-place : (i : ℕ) → suc i ≡ i + 1
next-place i = omega arith

split-at : (its : List Item) (i : ℕ) (it : Item) → i < length its → it ≡ get_or its i it → its ≡ take i its ++ it ∷ drop (i + 1) its
split-at its i it lt e = split-suc its i it lt e ∙ ap (λ k. take i its ++ it ∷ drop k its) (next-place i)

drop-at : (its : List Item) (i : ℕ) (it : Item) → i < length its → it ≡ get_or its i it → drop i its ≡ it ∷ drop (i + 1) its
drop-at its i it lt e = drop-suc its i it lt e ∙ ap (λ k. it ∷ drop k its) (next-place i)

module _ (its : List Item) (i : ℕ) (it : Item) (lt : i < length its) (here : it ≡ get_or its i it) where
  whole : map entry its ≡ map entry (take i its) ++ entry it ∷ map entry (drop (i + 1) its)
  whole = ap (map entry) (split-at its i it lt here) ∙ map-append entry (take i its) (it ∷ drop (i + 1) its)

  more : map entry (take (i + 1) its) ≡ map entry (take i its) ++ entry it ∷ []
  more = ap (map entry) ((take_at_read its i it lt).1 ∙ ap (λ x. take i its ++ x ∷ []) (sym here)) ∙ map-append entry (take i its) (it ∷ [])

  pub parts-whole : parts_among (E its) ≡ parts_among (E (take i its)) + (parts_in (entry it) + parts_among (E (drop (i + 1) its)))
  parts-whole = ap (λ es. parts_among (entries_of es)) whole ∙ parts-split (map entry (take i its)) (entry it ∷ map entry (drop (i + 1) its))

  pub items-whole : items_among (E its) ≡ items_among (E (take i its)) + (items_in (entry it) + items_among (E (drop (i + 1) its)))
  items-whole = ap (λ es. items_among (entries_of es)) whole ∙ items-split (map entry (take i its)) (entry it ∷ map entry (drop (i + 1) its))

  parts-more : parts_among (E (take (i + 1) its)) ≡ parts_among (E (take i its)) + parts_in (entry it)
  parts-more = let p = ap (λ es. parts_among (entries_of es)) more ∙ parts-split (map entry (take i its)) (entry it ∷ []) in omega (arith, p)

  items-more : items_among (E (take (i + 1) its)) ≡ items_among (E (take i its)) + items_in (entry it)
  items-more = let p = ap (λ es. items_among (entries_of es)) more ∙ items-split (map entry (take i its)) (entry it ∷ []) in omega (arith, p)

  pub written_at : AreWritten (E its) → AreWrittenIn (entry it)
  written_at w = written-in (map entry (take i its)) (entry it) (map entry (drop (i + 1) its)) (subst (λ es. AreWritten (entries_of es)) whole w)

  pub room_at : (l : Lookup) (a cur : State) → HaveRoom l (parts_among (E its)) (goals_of a.goals) → Carries l (parts_among (E (take i its))) a cur → HaveRoom l (parts_in (entry it)) (goals_of cur.goals)
  room_at l a cur had c =
      room_less l (parts_in (entry it)) (parts_in (entry it) + parts_among (E (drop (i + 1) its))) (omega arith) (goals_of cur.goals)
      (c.room (parts_in (entry it) + parts_among (E (drop (i + 1) its))) (subst (λ k. HaveRoom l k (goals_of a.goals)) parts-whole had))

  pub few_at : (first number : ℕ) → first + items_among (E its) < 2 ^ 32 → number ≡ first + items_among (E (take i its)) → number + items_in (entry it) < 2 ^ 32
  few_at first number lt e = let w = items-whole in omega (arith, lt, e, w)

  pub below_at : (t : ℕ) → 3 * items_among (E its) + 1 ≡ t → 3 * items_in (entry it) < t
  below_at t le = let w = items-whole in omega (arith, le, w)

  -- an item that goes well
  pub item_goes : (l : Lookup) (first number next : ℕ) (a cur new : State) →
      run_items l (E its) first (goals_of a.goals) ≡ run_items l (E (drop i its)) number (goals_of cur.goals) → Carries l (parts_among (E (take i its))) a cur → number ≡ first + items_among (E (take i its)) →
      (run_item l (entry it) number (goals_of cur.goals) ≡ Ok (goals_of new.goals)) × Carries l (parts_in (entry it)) cur new → next ≡ number + items_in (entry it) →
      (run_items l (E its) first (goals_of a.goals) ≡ run_items l (E (drop (i + 1) its)) next (goals_of new.goals)) × Carries l (parts_among (E (take (i + 1) its))) a new × (next ≡ first + items_among (E (take (i + 1) its)))
  item_goes l first number next a cur new is c n d e =
      let m = items-more in (
        is ∙ ap (λ xs. run_items l (E xs) number (goals_of cur.goals)) (drop-at its i it lt here)
            ∙ ap (λ r. and_then r (run_items l (E (drop (i + 1) its)) (number + items_in (entry it)))) d.0 ∙ ap (λ k. run_items l (E (drop (i + 1) its)) k (goals_of new.goals)) (sym e),
        subst (λ k. Carries l k a new) (sym parts-more) (carries_then l (parts_among (E (take i its))) (parts_in (entry it)) a cur new c d.1),
        omega (arith, n, e, m),
      )

-- ---- what is handed on

pub handed : (X : Type 0) (P : Result X Halt → Type 0) (r : Result X Halt) (h : Halt) → IsErr r × IsErrAnd r (λ x. x ≡ h) → P (Err h) → P r
handed X P (Ok x) h is p = cc
handed X P (Err x) h is p = subst (λ z. P (Err z)) (sym is.1) p

-- ---- hints

entry-hint : (h : HintItem) → entry (Hint h) ≡ hint (remark h)
entry-hint h = ap entry (sym (rolls-Hint h)) ∙ fold-roll-Item Entry entry_step (Item-F.Hint h)

pub hint_runs : (l : Lookup) (n : ℕ) (it : Item) (h : HintItem) (a b : State) (r : Result ℕ Halt) → it ≡ Hint h → Runs l (hinted n (goals_of a.goals)) 0 a b r → Runs l (run_item l (entry it) n (goals_of a.goals)) (parts_in (entry it)) a b r
hint_runs l n it h a b r is q = subst (λ e. Runs l (run_item l e n (goals_of a.goals)) (parts_in e) a b r) (sym (ap entry is ∙ entry-hint h)) q

-- ---- bullets

-- the count that is told
pub told_open : (k count : ℕ) (gs : List Goal) → k ≡ length gs → count ≡ min k (2 ^ 32 - 1) → IsTold (LeftOpen (length gs)) (rust.LeftOpen count)
told_open k count gs is e = inr (ap LeftOpen (ap (λ n. min n (2 ^ 32 - 1)) (sym is) ∙ sym e))

-- the cause of so many goals that are left
abbrev IsToldOpen : ℕ → Stop → Type 0
IsToldOpen k s = IsTold (LeftOpen k) s.cause

-- goals by the first of them
by-first : (gs : List Goal) (g : Goal) → Some g ≡ slice_get gs 0 → goals_of gs ≡ goal_of g ∷ goals_of (drop 1 gs)
by-first [] g e = absurd (cc)
by-first (x ∷ gs) g e = let same : x ≡ g = cc in ap (λ z. goal_of z ∷ goals_of gs) same

module _ (l : Lookup) (n k : ℕ) (inner : List moves.Goal → Ran) (a inside : State) (g copy : Goal) (first : Some g ≡ slice_get a.goals 0) (same : copy ≡ g) (one : inside.goals ≡ copy ∷ []) where
  alone : goals_of inside.goals ≡ goal_of g ∷ []
  alone = ap goals_of one ∙ ap (λ x. goal_of x ∷ []) same

  pub focus_room : HaveRoom l k (goals_of a.goals) → HaveRoom l k (goals_of inside.goals)
  focus_room had =
      let r = recursion_from_All (HasRoom l k) (goal_of g ∷ goals_of (drop 1 a.goals)) (subst (HaveRoom l k) (by-first a.goals g first) had) in
      subst (HaveRoom l k) (sym alone) (All-from_recursion (HasRoom l k) (goal_of g ∷ []) (r.0, tt))

  focus-is : focused n inner (goals_of a.goals) ≡ after_focus n (goal_of g ∷ goals_of (drop 1 a.goals)) (goals_of (drop 1 a.goals)) (inner (goals_of inside.goals))
  focus-is = ap (focused n inner) (by-first a.goals g first) ∙ ap (λ gs. after_focus n (goal_of g ∷ goals_of (drop 1 a.goals)) (goals_of (drop 1 a.goals)) (inner gs)) (sym alone)

  -- its block stops
  pub focus_stops : (s : Stop) → StopsAt (inner (goals_of inside.goals)) s → StopsAt (focused n inner (goals_of a.goals)) s
  focus_stops s q = subst (λ r. StopsAt r s) (sym focus-is) (go (inner (goals_of inside.goals)) q)
    where
      go : (r : Ran) → StopsAt r s → StopsAt (after_focus n (goal_of g ∷ goals_of (drop 1 a.goals)) (goals_of (drop 1 a.goals)) r) s
      go (Ok gs) q = absurd q
      go (Err x) q = q

  -- the same of want of memory
  pub focus_halts : (X : Type 0) (h : Halt) (after x : State) → Runs {X = X} l (inner (goals_of inside.goals)) k inside after (Err h) → Runs {X = X} l (focused n inner (goals_of a.goals)) k a x (Err h)
  focus_halts X (halt.Stop s) after x q = focus_stops s q
  focus_halts X halt.OutOfMemory after x q = tt

  -- its block leaves goals
  pub focus_open : (after : State) (s : Stop) → inner (goals_of inside.goals) ≡ Ok (goals_of after.goals) → (b : Bool) → b ≡ false → (after.goals ≡ [] → IsTrue b) → n ≡ s.item → 0 ≡ s.part → IsToldOpen (length after.goals) s → a.goals ≡ s.goals →
      StopsAt (focused n inner (goals_of a.goals)) s
  focus_open after s is b some there at part cause goals =
      subst (λ r. StopsAt r s) (sym (focus-is ∙ ap (after_focus n (goal_of g ∷ goals_of (drop 1 a.goals)) (goals_of (drop 1 a.goals))) is)) (go after.goals (λ e. false≢true (sym some ∙ there e)) cause)
    where
      go : (gs : List Goal) → (gs ≡ [] → ⊥) → IsToldOpen (length gs) s → StopsAt (after_focus n (goal_of g ∷ goals_of (drop 1 a.goals)) (goals_of (drop 1 a.goals)) (Ok (goals_of gs))) s
      go [] some c = absurd (some refl)
      go (x ∷ gs) some c = (at, part, subst (λ k. IsTold (LeftOpen k) s.cause) (sym (length-map (x ∷ gs) goal_of)) c, sym (by-first a.goals g first) ∙ ap goals_of goals)

  -- its block closes the goal
  pub focus_closes : (after new : State) → inside.frames ≡ [] → (inner (goals_of inside.goals) ≡ Ok (goals_of after.goals)) × Carries l k inside after → (b : Bool) → b ≡ true → (IsTrue b → after.goals ≡ []) →
      new.frames ≡ a.frames ++ after.frames → new.goals ≡ drop 1 a.goals → (focused n inner (goals_of a.goals) ≡ Ok (goals_of new.goals)) × Carries l k a new
  focus_closes after new fresh d b is empty frames goals =
      let gone = empty is in
      let rest = ap goals_of goals in (
        focus-is ∙ ap (after_focus n (goal_of g ∷ goals_of (drop 1 a.goals)) (goals_of (drop 1 a.goals))) (d.0 ∙ ap (λ gs. Ok (goals_of gs)) gone) ∙ ap Ok (sym rest),
        record {
          leads = λ first-goals was.
              subst (λ fs. Leads l fs first-goals (goals_of new.goals)) (sym (ap frames_of frames ∙ map-append frame_of a.frames after.frames))
              (subst (Leads l (frames_of a.frames ++ frames_of after.frames) first-goals) (sym rest)
              (leads_then l (frames_of a.frames) (frames_of after.frames) first-goals (goal_of g ∷ goals_of (drop 1 a.goals)) (goals_of (drop 1 a.goals))
              (subst (Leads l (frames_of a.frames) first-goals) (by-first a.goals g first) was) (within gone)));
          room = λ r had. subst (HaveRoom l r) (sym rest) (behind r (subst (HaveRoom l (k + r)) (by-first a.goals g first) had));
        },
      )
    where
      within : after.goals ≡ [] → Leads l (frames_of after.frames) (goal_of g ∷ goals_of (drop 1 a.goals)) (goals_of (drop 1 a.goals))
      within gone =
          leads_before l (frames_of after.frames) (goal_of g ∷ []) [] (goals_of (drop 1 a.goals))
          (subst (Leads l (frames_of after.frames) (goal_of g ∷ [])) (ap goals_of gone)
          (d.1.leads (goal_of g ∷ []) (subst (λ fs. Leads l (frames_of fs) (goal_of g ∷ []) (goals_of inside.goals)) (sym fresh)
          (subst (Leads l [] (goal_of g ∷ [])) (sym alone) (leads_stay l (goal_of g ∷ []))))))

      behind : (r : ℕ) → HaveRoom l (k + r) (goal_of g ∷ goals_of (drop 1 a.goals)) → HaveRoom l r (goals_of (drop 1 a.goals))
      behind r had =
          let q = recursion_from_All (HasRoom l (k + r)) (goal_of g ∷ goals_of (drop 1 a.goals)) had in
          All-from_recursion (HasRoom l r) (goals_of (drop 1 a.goals)) (less l r (k + r) (omega arith) (goals_of (drop 1 a.goals)) q.1)
