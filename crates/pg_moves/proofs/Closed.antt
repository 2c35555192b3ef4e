-- A run that is closed has a proof of the statement's formula that the kernel accepts.
use Rattle.std.proofs.Common.{◌≡◌, ℕ, zero, suc, ◌+◌, ◌<◌, ◌≤◌, List, [], ◌∷◌, ◌++◌, length, map, Option, Some, None, refl, arith, ap, sym, ◌∙◌, subst}
use Rattle.std.specs.Prelude.{Ok, Err, slice_get}
use Rattle.pg_logic.specs.Tree.{Fm}
use Rattle.pg_logic.specs.Signature.{Signature}
use Rattle.pg_logic.specs.Declarations.{signature_of}
use Rattle.pg_logic.specs.Kernel.{Pf, fault_of}
use Rattle.pg_script.specs.Data.{Step, Entry, move, focus, branch, hint, Entries, none, entry, entries_of}
use Rattle.pg_script.specs.Blocks.{steps_of}
use Rattle.pg_syntax.specs.declared.statement.Binder.{Binder}
use Rattle.pg_syntax.specs.Statements as statements
use Rattle.pg_moves.specs.Goals.{Goal}
use Rattle.pg_moves.specs.First.{first_vars, first_goal}
use Rattle.pg_moves.specs.Causes.{Cause, Tried, NoGoal, and_then, wanted, unless_wrong}
use Rattle.pg_moves.specs.Lookup.{Lookup, IsAvailable}
use Rattle.pg_moves.specs.Acts.{Act, acts_of}
use Rattle.pg_moves.specs.Measures.{first_large, within_limits}
use Rattle.pg_moves.specs.Steps.{new_goals, move_there, acted, step}
use Rattle.pg_moves.specs.Runs.{Ran, items_in, after_part, run_parts, after_focus, focused, branched, hinted, run_item, run_items, outcome, Closed, run, parts_in, parts_among}
use Rattle.pg_moves.specs.Proofs.{EachNamed, Sequent, sequent}
use Rattle.pg_moves.proofs.ByRecursion.{AllFitting}
use Rattle.pg_moves.specs.Frames.{Frame, introduced, Turns}
use Rattle.pg_moves.proofs.Turning.{at, turns-then}
use Rattle.pg_moves.proofs.Moved.{append_assoc}
use Rattle.pg_moves.proofs.Finish.{turn-first, finished}
use Rattle.pg_moves.proofs.Sequents.{then-ok}
use Rattle.pg_moves.proofs.Given.{Sound}
use Rattle.pg_moves.proofs.Good.{FewVars}
use Rattle.pg_moves.proofs.Works.{works}

map-append : {X Y : Type 0} (f : X → Y) (xs ys : List X) → map f (xs ++ ys) ≡ map f xs ++ map f ys
map-append f [] ys = refl
map-append f (x ∷ xs) ys = ap (λ l. f x ∷ l) (map-append f xs ys)

-- each goal has room for so many variables more
abbrev pub Rooms : ℕ → List Sequent → Type 0
Rooms k [] = Unit {0}
Rooms k (q ∷ qs) = (q.vars + k < 4294967295) × Rooms k qs

rooms-less : (j k : ℕ) (qs : List Sequent) → j ≤ k → Rooms k qs → Rooms j qs
rooms-less j k [] le r = tt
rooms-less j k (q ∷ qs) le r = (omega (arith, le, r.0), rooms-less j k qs le r.1)

rooms-append : (k : ℕ) (ps qs : List Sequent) → Rooms k ps → Rooms k qs → Rooms k (ps ++ qs)
rooms-append k [] qs r r' = r'
rooms-append k (p ∷ ps) qs r r' = (r.0, rooms-append k ps qs r.1 r')

rooms-few : (k m : ℕ) (qs : List Sequent) → FewVars m qs → m + k < 4294967295 → Rooms k qs
rooms-few k m [] f lt = tt
rooms-few k m (q ∷ qs) f lt = (omega (arith, f.0, lt), rooms-few k m qs f.1 lt)

module _ (l : Lookup) (ok : Sound l) where
  abbrev s : Signature
  s = signature_of l.declared

  abbrev T : List Frame → List Sequent → List Sequent → Type 0
  T = Turns s l.theorems (IsAvailable l)

  fitting-append : (ps qs : List Sequent) → AllFitting s ps → AllFitting s qs → AllFitting s (ps ++ qs)
  fitting-append [] qs f f' = f'
  fitting-append (p ∷ ps) qs f f' = (f.0, fitting-append ps qs f.1 f')

  -- goals that fit and have room
  record Fine (k : ℕ) (gs : List Goal) : Type 0 where
    pub fits : AllFitting s (map sequent gs)
    pub rooms : Rooms k (map sequent gs)

  less : (j k : ℕ) (gs : List Goal) → j ≤ k → Fine k gs → Fine j gs
  less j k gs le f = record { fits = f.fits; rooms = rooms-less j k (map sequent gs) le f.rooms }

  -- proofs of the goals that are left make proofs of those before, whatever goals stand behind
  record Leads (k : ℕ) (gs gs' : List Goal) : Type 0 where
    pub frames : List Frame
    pub turns : (below : List Sequent) → T frames (map sequent gs ++ below) (map sequent gs' ++ below)
    pub fine : Fine k gs'

  stays : (k : ℕ) (gs : List Goal) → Fine k gs → Leads k gs gs
  stays k gs f = record { frames = []; turns = λ below ps a. a; fine = f }

  follows : (k j : ℕ) (xs ys zs : List Goal) → Leads k xs ys → Leads j ys zs → Leads j xs zs
  follows k j xs ys zs a b =
      record {
        frames = a.frames ++ b.frames;
        turns = λ below. turns-then s l.theorems (IsAvailable l) a.frames b.frames (map sequent xs ++ below) (map sequent ys ++ below) (map sequent zs ++ below) (a.turns below) (b.turns below);
        fine = b.fine;
      }

  -- one act
  act-leads : (k : ℕ) (gs gs' : List Goal) (a : Act) → Fine (suc k) gs → acted l gs a ≡ Ok gs' → Leads k gs gs'
  act-leads k [] gs' a f e = absurd (cc)
  act-leads k (g ∷ rest) gs' a f e =
      let x = then-ok (new_goals l g a) (λ new. within_limits new (new ++ rest)) gs' e in
      let w = works l ok g f.fits.0 (omega (arith, f.rooms.0)) a x.0 x.1 in
      let is : x.0 ++ rest ≡ gs' = unless-ok (first_large x.0 (x.0 ++ rest)) (x.0 ++ rest) gs' x.2 in
      let q = map-append sequent x.0 rest in
      subst (Leads k (g ∷ rest)) is (record {
        frames = w.0;
        turns = λ below. subst (λ qs. T w.0 (map sequent (g ∷ rest) ++ below) qs) (sym (ap (λ qs. qs ++ below) q ∙ append_assoc (map sequent x.0) (map sequent rest) below)) (w.1.turns (map sequent rest ++ below));
        fine = record {
          fits = subst (AllFitting s) (sym q) (fitting-append (map sequent x.0) (map sequent rest) w.1.fitting f.fits.1);
          rooms = subst (Rooms k) (sym q) (rooms-append k (map sequent x.0) (map sequent rest) (rooms-few k (length g.vars + 1) (map sequent x.0) w.1.few (omega (arith, f.rooms.0))) (rooms-less k (suc k) (map sequent rest) (omega arith) f.rooms.1));
        };
      })
    where
      unless-ok : (o : Option Cause) (xs ys : List Goal) → unless_wrong o xs ≡ Ok ys → xs ≡ ys
      unless-ok None xs ys e = cc
      unless-ok (Some c) xs ys e = absurd (cc)

  step-leads : (k : ℕ) (gs gs' : List Goal) (m : Step) (part : ℕ) → Fine (suc k) gs → step l gs m part ≡ Ok gs' → Leads k gs gs'
  step-leads k gs gs' m part f e =
      let x = then-ok (move_there l m.head) (λ t. and_then (wanted (slice_get (acts_of m.head m.shape) part) NoGoal) (acted l gs)) gs' e in
      let y = then-ok (wanted (slice_get (acts_of m.head m.shape) part) NoGoal) (acted l gs) gs' x.2 in
      act-leads k gs gs' y.0 f y.2

  -- parts of a move
  parts-lead : (count k : ℕ) (gs gs' : List Goal) (item : ℕ) (m : Step) (part : ℕ) → Fine (count + k) gs → run_parts l item m count part gs ≡ Ok gs' → Leads k gs gs'
  parts-lead zero k gs gs' item m part f e = let is : gs ≡ gs' = cc in subst (Leads k gs) is (stays k gs (less k (0 + k) gs (omega arith) f))
  parts-lead (suc c) k gs gs' item m part f e = go (step l gs m part) refl e (λ next. parts-lead c k next gs' item m (part + 1))
    where
      go : (o : Tried (List Goal)) → step l gs m part ≡ o → after_part item part gs (run_parts l item m c (part + 1)) o ≡ Ok gs' →
          ((next : List Goal) → Fine (c + k) next → run_parts l item m c (part + 1) next ≡ Ok gs' → Leads k next gs') → Leads k gs gs'
      go (Ok next) is e more = let a = step-leads (c + k) gs next m part (less (suc (c + k)) (suc c + k) gs (omega arith) f) is in follows (c + k) k gs next gs' a (more next a.fine e)
      go (Err cause) is e more = absurd (cc)

  -- a bullet: what its block does with the first goal alone
  behind : (k parts item : ℕ) (g : Goal) (rest gs' : List Goal) (r : Ran) → Fine (parts + k) (g ∷ rest) → after_focus item (g ∷ rest) rest r ≡ Ok gs' → (r ≡ Ok [] → Leads k (g ∷ []) []) → Leads k (g ∷ rest) gs'
  behind k parts item g rest gs' (Ok []) f q go =
      let is : rest ≡ gs' = cc in
      let a = go refl in
      subst (Leads k (g ∷ rest)) is (record {
        frames = a.frames;
        turns = λ below. a.turns (map sequent rest ++ below);
        fine = record { fits = f.fits.1; rooms = rooms-less k (parts + k) (map sequent rest) (omega arith) f.rooms.1 };
      })
  behind k parts item g rest gs' (Ok (x ∷ left)) f q go = absurd (cc)
  behind k parts item g rest gs' (Err x) f q go = absurd (cc)

  focus-leads : (k parts item : ℕ) (inner : List Goal → Ran) (gs gs' : List Goal) → Fine (parts + k) gs → focused item inner gs ≡ Ok gs' →
      ((g : Goal) → Fine (parts + k) (g ∷ []) → inner (g ∷ []) ≡ Ok [] → Leads k (g ∷ []) []) → Leads k gs gs'
  focus-leads k parts item inner [] gs' f q go = absurd (cc)
  focus-leads k parts item inner (g ∷ rest) gs' f q go =
      behind k parts item g rest gs' (inner (g ∷ [])) f q (go g (record { fits = (f.fits.0, tt); rooms = (f.rooms.0, tt) }))

  branch-leads : (k parts : ℕ) (r : Ran) (gs gs' : List Goal) → Fine (parts + k) gs → branched gs r ≡ Ok gs' → Leads k gs gs'
  branch-leads k parts (Ok left) gs gs' f q = let is : gs ≡ gs' = cc in subst (Leads k gs) is (stays k gs (less k (parts + k) gs (omega arith) f))
  branch-leads k parts (Err x) gs gs' f q = absurd (cc)

  hint-leads : (k item : ℕ) (gs gs' : List Goal) → Fine (0 + k) gs → hinted item gs ≡ Ok gs' → Leads k gs gs'
  hint-leads k item [] gs' f q = absurd (cc)
  hint-leads k item (g ∷ gs) gs' f q = let is : g ∷ gs ≡ gs' = cc in subst (Leads k (g ∷ gs)) is (stays k (g ∷ gs) (less k (0 + k) (g ∷ gs) (omega arith) f))

  mutual
    item-leads : (e : Entry) (k item : ℕ) (gs gs' : List Goal) → Fine (parts_in e + k) gs → run_item l e item gs ≡ Ok gs' → Leads k gs gs'
    item-leads (move m) k item gs gs' f q = parts-lead (steps_of m.shape) k gs gs' item m 0 f q
    item-leads (focus es) k item gs gs' f q =
        focus-leads k (parts_among es) item (run_items l es (item + 1)) gs gs' f q (λ g f q. items-lead es k (item + 1) (g ∷ []) [] f q)
    item-leads (branch es) k item gs gs' f q = branch-leads k (parts_among es) (run_items l es (item + 1) gs) gs gs' f q
    item-leads (hint h) k item gs gs' f q = hint-leads k item gs gs' f q

    items-lead : (es : Entries) (k item : ℕ) (gs gs' : List Goal) → Fine (parts_among es + k) gs → run_items l es item gs ≡ Ok gs' → Leads k gs gs'
    items-lead none k item gs gs' f q = let is : gs ≡ gs' = cc in subst (Leads k gs) is (stays k gs (less k (0 + k) gs (omega arith) f))
    items-lead (entry e es) k item gs gs' f q =
        let x = then-ok (run_item l e item gs) (run_items l es (item + items_in e)) gs' q in
        let a = item-leads e (parts_among es + k) item gs x.0 (less (parts_in e + (parts_among es + k)) (parts_in e + parts_among es + k) gs (omega arith) f) x.1 in
        follows (parts_among es + k) k gs x.0 gs' a (items-lead es k (item + items_in e) x.0 gs' a.fine x.2)

  -- the items of a script, the statement's first goal, and its formula
  pub run-closed : (bs : List Binder) (c : Fm) (items : List Entry) → statements.AreFitting s 0 bs c → length (first_vars bs) + parts_among (entries_of items) < 4294967295 → AllFitting s (sequent (first_goal bs c) ∷ []) →
      run l (first_goal bs c) items ≡ Closed → (p : Pf) × (fault_of s l.theorems p 0 [] (statements.closed bs c) 0 ≡ None) × EachNamed (IsAvailable l) p
  unfolding run
  run-closed bs c items af room fits e =
      let a = items-lead (entries_of items) 0 0 (first_goal bs c ∷ []) [] (record { fits = fits; rooms = (omega (arith, room), tt) }) (closed-ok (run_items l (entries_of items) 0 (first_goal bs c ∷ [])) e) in
      let t = turns-then s l.theorems (IsAvailable l) (introduced bs) a.frames (at 0 [] (statements.closed bs c) ∷ []) (sequent (first_goal bs c) ∷ []) [] (turn-first s l.theorems (IsAvailable l) [] bs c (omega (arith, room)) af) (a.turns []) in
      let x = finished s l.theorems (IsAvailable l) (introduced bs ++ a.frames) (statements.closed bs c) t in
      (x.0, x.2, x.3)
    where
      closed-ok : (r : Ran) → outcome r ≡ Closed → r ≡ Ok []
      closed-ok (Ok []) e = refl
      closed-ok (Ok (g ∷ gs)) e = absurd (cc)
      closed-ok (Err x) e = absurd (cc)
