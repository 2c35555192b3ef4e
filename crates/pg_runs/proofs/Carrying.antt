-- What a step does for frames, and for the room of goals.
use Rattle.std.proofs.Common.{◌≡◌, ℕ, ◌+◌, ◌<◌, ◌≤◌, ◌^◌, List, [], ◌∷◌, ◌++◌, length, map, Option, Some, None, refl, sym, ap, ◌∙◌, subst, arith, inl, inr}
use Rattle.std.specs.Prelude.{All, Ok, Err, flat_map, option_map}
use Rattle.std.specs.Option.{option_or}
use Rattle.std.specs.List.{AllByRecursion}
use Rattle.std.proofs.lemmas.List.{append_assoc, map-append}
use Rattle.std.proofs.lemmas.List.Elements.{All-from_recursion, recursion_from_All}
use Rattle.pg_logic.specs.Tree.{Fm, nodes_of}
use Rattle.pg_logic.specs.Signature.{Signature}
use Rattle.pg_logic.specs.Declarations.{signature_of}
use Rattle.pg_moves.specs.Goals.{Hyp, Goal}
use Rattle.pg_moves.specs.Lookup.{Lookup, IsAvailable}
use Rattle.pg_moves.specs.Laws.{IsSound, Justifies}
use Rattle.pg_moves.specs.Acts.{Act}
use Rattle.pg_moves.specs.Causes.{Cause, Tried, and_then, unless_wrong}
use Rattle.pg_moves.specs.Steps.{new_goals, acted}
use Rattle.pg_moves.specs.Measures.{formulas, first_over, goal_measures, block_measures, first_large, within_limits}
use Rattle.pg_moves.specs.Proofs.{Sequent, sequent, hyp_formula, Fits}
use Rattle.pg_moves.specs.Frames.{Frame, Turns}
use Rattle.pg_moves.proofs.Turning.{turns-then}
use Rattle.pg_goal.specs.Conditions.{IsCounted}
use Rattle.pg_reduction.proofs.Large.{first-append}
use Rattle.pg_reduction.specs.Doing.{IsReady, StopsWithin}
use Rattle.pg_reduction.specs.declared.reduction.Reduction.{Reduction}
use Rattle.pg_reduction.specs.View.{cause_of}
use Rattle.pg_reduction.specs.Limits.{told, Tells}
use Rattle.pg_reduction.specs.declared.cause.Cause.{Cause as RustCause}
use Rattle.pg_runs.specs.Running.{StopsBy, IsReduced}
use Rattle.pg_runs.specs.State.{goals_of, Leads, Carries, IsUsable, HasRoom, HaveRoom}
use Rattle.pg_runs.specs.declared.state.State.{State}
use Rattle.pg_frames.specs.View.{frame_of, frames_of}
use Rattle.pg_runs.proofs.Limits.{IsSmall, within-small}

module _ (l : Lookup) where
  abbrev s : Signature
  s = signature_of l.declared

  abbrev T : List Frame → List Sequent → List Sequent → Type 0
  T = Turns s l.theorems (IsAvailable l)

  -- ---- frames

  pub leads_stay : (gs : List Goal) → Leads l [] gs gs
  leads_stay gs below ps a = a

  pub leads_then : (fs gs : List Frame) (x y z : List Goal) → Leads l fs x y → Leads l gs y z → Leads l (fs ++ gs) x z
  leads_then fs gs x y z a b below =
      turns-then s l.theorems (IsAvailable l) fs gs (map sequent x ++ below) (map sequent y ++ below) (map sequent z ++ below) (a below) (b below)

  -- other goals may stand behind
  pub leads_before : (fs : List Frame) (x y rest : List Goal) → Leads l fs x y → Leads l fs (x ++ rest) (y ++ rest)
  leads_before fs x y rest a below =
      subst (λ qs. T fs qs (map sequent (y ++ rest) ++ below)) (sym (parts x)) (subst (λ qs. T fs (map sequent x ++ (map sequent rest ++ below)) qs) (sym (parts y)) (a (map sequent rest ++ below)))
    where
      parts : (z : List Goal) → map sequent (z ++ rest) ++ below ≡ map sequent z ++ (map sequent rest ++ below)
      parts z = ap (λ qs. qs ++ below) (map-append sequent z rest) ∙ append_assoc (map sequent z) (map sequent rest) below

  leads_act : (fs : List Frame) (g : Goal) (new rest : List Goal) → Justifies l (sequent g) (map sequent new) fs → Leads l fs (g ∷ rest) (new ++ rest)
  leads_act fs g new rest j = leads_before fs (g ∷ []) new rest (λ below. j.turns below)

  -- ---- room

  abbrev Room : ℕ → List Goal → Type 0
  Room k gs = AllByRecursion (HasRoom l k) gs

  pub less : (j k : ℕ) → j ≤ k → (gs : List Goal) → Room k gs → Room j gs
  less j k le [] r = tt
  less j k le (g ∷ gs) r = (record { fits = r.0.fits; vars = omega (arith, le, r.0.vars); hyps = r.0.hyps; nodes = r.0.nodes }, less j k le gs r.1)

  behind : (k : ℕ) (xs ys : List Goal) → Room k xs → Room k ys → Room k (xs ++ ys)
  behind k [] ys r q = q
  behind k (x ∷ xs) ys r q = (r.0, behind k xs ys r.1 q)

  few-nodes : (fs : List Fm) → AllByRecursion (λ a. nodes_of a ≤ 65536) fs → AllByRecursion (λ a. nodes_of a < 2 ^ 29) fs
  few-nodes [] n = tt
  few-nodes (a ∷ more) n = (omega (arith, n.0), few-nodes more n.1)

  news : (k m : ℕ) → m + k < 4294967295 → (new : List Goal) → AllByRecursion (Fits s) (map sequent new) →
      AllByRecursion (λ (q : Sequent). q.vars ≤ m) (map sequent new) → AllByRecursion IsSmall new → Room k new
  news k m lt [] f v n = tt
  news k m lt (g ∷ gs) f v n = (
    record {
      fits = f.0;
      vars = omega (arith, lt, v.0);
      hyps = omega (arith, n.0.hyps);
      nodes = All-from_recursion (λ a. nodes_of a < 2 ^ 29) (formulas g) (few-nodes (formulas g) n.0.formulas);
    },
    news k m lt gs f.1 v.1 n.1,
  )

  front : (xs ys : List Goal) → AllByRecursion IsSmall (xs ++ ys) → AllByRecursion IsSmall xs
  front [] ys a = tt
  front (x ∷ xs) ys a = (a.0, front xs ys a.1)

  room_act : (k : ℕ) (fs : List Frame) (g : Goal) (new rest : List Goal) → Justifies l (sequent g) (map sequent new) fs → first_large new (new ++ rest) ≡ None →
      HaveRoom l (1 + k) (g ∷ rest) → HaveRoom l k (new ++ rest)
  room_act k fs g new rest j e r =
      let q = recursion_from_All (HasRoom l (1 + k)) (g ∷ rest) r in
      All-from_recursion (HasRoom l k) (new ++ rest)
      (behind k new rest
      (news k (length g.vars + 1) (omega (arith, q.0.vars)) new
      (recursion_from_All (Fits s) (map sequent new) j.fitting) (recursion_from_All (λ (x : Sequent). x.vars ≤ length g.vars + 1) (map sequent new) j.few)
      (front new rest (within-small new (new ++ rest) e)))
      (less k (1 + k) (omega arith) rest q.1))

  -- an act finds its goal ready
  pub ready : IsSound l → (g : Goal) (rest : List Goal) → HaveRoom l 1 (g ∷ rest) → IsReady l g
  ready ok g rest r =
      let q = recursion_from_All (HasRoom l 1) (g ∷ rest) r in
      record { sound = ok; fits = q.0.fits; vars = q.0.vars; hyps = omega (arith, q.0.hyps) }

  fewer : (fs : List Fm) → AllByRecursion (λ a. nodes_of a < 2 ^ 29) fs → AllByRecursion (λ a. nodes_of a < 2 ^ 32) fs
  fewer [] n = tt
  fewer (a ∷ more) n = (omega (arith, n.0), fewer more n.1)

  before-target : (hs : List Hyp) (t : Fm) → AllByRecursion (λ a. nodes_of a < 2 ^ 32) (map (λ (h : Hyp). h.formula) hs ++ t ∷ []) → AllByRecursion (λ a. nodes_of a < 2 ^ 32) (map hyp_formula hs)
  before-target [] t n = tt
  before-target (h ∷ hs) t n = (n.0, before-target hs t n.1)

  -- and counted
  pub counted : IsUsable l → (g : Goal) (rest : List Goal) → HaveRoom l 1 (g ∷ rest) → IsCounted l g × All (λ a. nodes_of a < 2 ^ 29) (formulas g)
  counted ok g rest r =
      let q = recursion_from_All (HasRoom l 1) (g ∷ rest) r in
      let n = before-target g.hyps g.target (fewer (formulas g) (recursion_from_All (λ a. nodes_of a < 2 ^ 29) (formulas g) q.0.nodes)) in (
        record {
          names = ok.names;
          theorems = ok.theorems;
          vars = omega (arith, q.0.vars);
          hyps = omega (arith, q.0.hyps);
          formulas = All-from_recursion (λ a. nodes_of a < 2 ^ 32) (map hyp_formula g.hyps) n;
        },
        q.0.nodes,
      )

  -- where the act stops, so does what it is part of
  pub act_stops : (g : Goal) (rest : List Goal) (a : Act) (e : Cause) → new_goals l g a ≡ Err e → acted l (g ∷ rest) a ≡ Err e
  act_stops g rest a e is = ap (λ r. and_then r (λ new. within_limits new (new ++ rest))) is

  -- where its new goals are too large
  pub limit_stops : (g : Goal) (rest new : List Goal) (a : Act) (e : Cause) → new_goals l g a ≡ Ok new → first_large new (new ++ rest) ≡ Some e → acted l (g ∷ rest) a ≡ Err e
  limit_stops g rest new a e is large = ap (λ r. and_then r (λ new. within_limits new (new ++ rest))) is ∙ ap (λ o. unless_wrong o (new ++ rest)) large

  -- where they are not
  pub act_goes : (g : Goal) (rest new : List Goal) (a : Act) → new_goals l g a ≡ Ok new → first_large new (new ++ rest) ≡ None → acted l (g ∷ rest) a ≡ Ok (new ++ rest)
  act_goes g rest new a is small = ap (λ r. and_then r (λ new. within_limits new (new ++ rest))) is ∙ ap (λ o. unless_wrong o (new ++ rest)) small

  -- the same, as told
  pub large_stops : (g : Goal) (rest new : List Goal) (a : Act) (o : Option Cause) (c : RustCause) → new_goals l g a ≡ Ok new → first_large new (new ++ rest) ≡ o →
      Tells o (Some c) → StopsBy (acted l (g ∷ rest) a) c
  large_stops g rest new a None c is large t = absurd (cc)
  large_stops g rest new a (Some e) c is large t = let same : told e ≡ cause_of c = cc in subst (λ r. StopsBy r c) (sym (limit_stops g rest new a e is large)) (inr same)

  -- a limit that the new goals pass by themselves
  large_itself : (g : Goal) (rest new : List Goal) (a : Act) (c : RustCause) (o : Option Cause) → new_goals l g a ≡ Ok new → first_over (flat_map goal_measures new) ≡ o →
      option_map told o ≡ Some (cause_of c) → StopsBy (acted l (g ∷ rest) a) c
  large_itself g rest new a c None is e t = absurd (cc)
  large_itself g rest new a c (Some w) is e t =
      let block = block_measures (new ++ rest) in
      let large = first-append (flat_map goal_measures new) block ∙ ap (λ o. option_or o (first_over block)) e in
      let same : told w ≡ cause_of c = cc in subst (λ r. StopsBy r c) (sym (limit_stops g rest new a w is large)) (inr same)

  -- an act that stops, by a limit perhaps
  pub stops_within : (g : Goal) (rest : List Goal) (a : Act) (c : RustCause) → StopsWithin (new_goals l g a) c → StopsBy (acted l (g ∷ rest) a) c
  stops_within g rest a c q = go (new_goals l g a) refl q
    where
      go : (r : Tried (List Goal)) → new_goals l g a ≡ r → StopsWithin r c → StopsBy (acted l (g ∷ rest) a) c
      go (Err e) is q = subst (λ r. StopsBy r c) (sym (act_stops g rest a e is)) (inl q)
      go (Ok new) is q = large_itself g rest new a c (first_over (flat_map goal_measures new)) is refl q

  -- nothing is too large
  pub within : (o : Option Cause) → Tells o None → o ≡ None
  within None t = refl
  within (Some e) t = absurd (cc)

  -- ---- steps

  -- a step whose act goes well: the state before, and the one after
  pub carries : (old new : State) (g : Goal) (rest : List Goal) (a : Act) (r : Reduction) → goals_of old.goals ≡ g ∷ rest → IsReduced l g rest a (Ok r) →
      new.frames ≡ old.frames ++ r.frames → goals_of new.goals ≡ goals_of r.goals ++ rest → Carries l 1 old new
  carries old new g rest a r before d frames after =
      let fs = ap frames_of frames ∙ map-append frame_of old.frames r.frames in
      record {
        leads = λ first was. subst (λ gs. Leads l (frames_of new.frames) first gs) (sym after) (subst (λ fs. Leads l fs first (goals_of r.goals ++ rest)) (sym fs)
            (leads_then (frames_of old.frames) (frames_of r.frames) first (g ∷ rest) (goals_of r.goals ++ rest) (subst (Leads l (frames_of old.frames) first) before was) (leads_act (frames_of r.frames) g (goals_of r.goals) rest d.0.justified)));
        room = λ k had. subst (HaveRoom l k) (sym after) (room_act k (frames_of r.frames) g (goals_of r.goals) rest d.0.justified d.1 (subst (HaveRoom l (1 + k)) before had));
      }
