-- Runs by what their parts answer.
use Rattle.std.proofs.Common.{◌≡◌, ℕ, suc, ◌+◌, ◌-◌, ◌<◌, ◌≤◌, List, [], ◌∷◌, Bool, false, refl, sym, ap, ◌∙◌, subst, inl, arith}
use Rattle.std.specs.Prelude.{Ok, Err, IsTrue}
use Rattle.std.proofs.lemmas.Bool.{false≢true}
use Rattle.pg_goal.specs.declared.goal.Goal.{Goal}
use Rattle.std.proofs.lemmas.List.Elements.{All-from_recursion, recursion_from_All}
use Rattle.pg_script.specs.Data.{Step}
use Rattle.pg_moves.specs.Goals as moves
use Rattle.pg_moves.specs.Lookup.{Lookup}
use Rattle.pg_moves.specs.Steps.{step}
use Rattle.pg_moves.specs.Runs.{Ran, hinted, run_parts, after_part}
use Rattle.pg_runs.specs.State.{goals_of, HasRoom, HaveRoom, Carries}
use Rattle.pg_runs.specs.Running.{Steps, Runs, StopsBy, StopsAt}
use Rattle.pg_runs.specs.declared.running.Stop.{Stop as RustStop}
use Rattle.pg_moves.specs.Causes.{Tried, NoGoal}
use Rattle.pg_reduction.specs.View.{cause_of}
use Rattle.pg_runs.specs.declared.state.State.{State}
use Rattle.pg_runs.specs.declared.running.Halt.{Halt}
use Rattle.pg_runs.specs.declared.running.Halt.TheVariants.{Stop}
use Rattle.pg_runs.proofs.Carrying.{less}

-- a stop that is handed on
pub halted_at : (X : Type 0) (l : Lookup) (r : Ran) (k : ℕ) (a b : State) (h : Halt) (s : RustStop) → h ≡ Stop s → StopsAt r s → Runs {X = X} l r k a b (Err h)
halted_at X l r k a b h s is q = subst (λ h. Runs {X = X} l r k a b (Err h)) (sym is) q

module _ (l : Lookup) where
  pub room_less : (j k : ℕ) → j ≤ k → (gs : List moves.Goal) → HaveRoom l k gs → HaveRoom l j gs
  room_less j k le gs r = All-from_recursion (HasRoom l j) gs (less l j k le gs (recursion_from_All (HasRoom l k) gs r))

  pub carries_still : (k : ℕ) (a : State) → Carries l k a a
  carries_still k a = record { leads = λ first was. was; room = λ r had. room_less r (k + r) (omega arith) (goals_of a.goals) had }

  pub carries_then : (j k : ℕ) (a b c : State) → Carries l j a b → Carries l k b c → Carries l (j + k) a c
  carries_then j k a b c x y =
      record {
        leads = λ first was. y.leads first (x.leads first was);
        room = λ r had. y.room r (x.room (k + r) (subst (λ n. HaveRoom l n (goals_of a.goals)) (omega arith) had));
      }

  -- ---- parts of a move

  module _ (n : ℕ) (m : Step) (total i : ℕ) (lt : i < total) where
    left : total - i ≡ suc (total - (i + 1))
    left = omega (arith, lt)

    -- the parts from this one on
    abbrev from : List moves.Goal → Ran
    from gs = run_parts l n m (total - i) i gs

    unfolds : (gs : List moves.Goal) → from gs ≡ after_part n i gs (run_parts l n m (total - (i + 1)) (i + 1)) (step l gs m i)
    unfolds gs = ap (λ k. run_parts l n m k i gs) left

    pub part_room : (a cur : State) → HaveRoom l total (goals_of a.goals) → Carries l i a cur → HaveRoom l 1 (goals_of cur.goals)
    part_room a cur had c =
        room_less 1 (total - i) (omega (arith, lt)) (goals_of cur.goals) (c.room (total - i) (subst (λ k. HaveRoom l k (goals_of a.goals)) (omega (arith, lt)) had))

    pub part_goes : (a cur next : State) → run_parts l n m total 0 (goals_of a.goals) ≡ from (goals_of cur.goals) → Carries l i a cur → Steps l (step l (goals_of cur.goals) m i) cur next (Ok tt) →
        (run_parts l n m total 0 (goals_of a.goals) ≡ run_parts l n m (total - (i + 1)) (i + 1) (goals_of next.goals)) × Carries l (i + 1) a next
    part_goes a cur next is c s =
        (is ∙ unfolds (goals_of cur.goals) ∙ ap (after_part n i (goals_of cur.goals) (run_parts l n m (total - (i + 1)) (i + 1))) s.0, carries_then i 1 a cur next c s.1)

    stops-so : (gs : List moves.Goal) (s : RustStop) (t : Tried (List moves.Goal)) (more : List moves.Goal → Ran) → StopsBy t s.cause → n ≡ s.item → i ≡ s.part → gs ≡ goals_of s.goals → StopsAt (after_part n i gs more t) s
    stops-so gs s (Ok x) more q a b e = absurd q
    stops-so gs s (Err x) more q a b e = (a, b, q, e)

    pub part_halts : (a cur last : State) (s : RustStop) → run_parts l n m total 0 (goals_of a.goals) ≡ from (goals_of cur.goals) → StopsBy (step l (goals_of cur.goals) m i) s.cause → last ≡ cur →
        n ≡ s.item → i ≡ s.part → last.goals ≡ s.goals → StopsAt (run_parts l n m total 0 (goals_of a.goals)) s
    part_halts a cur last s is q same item part goals =
        subst (λ r. StopsAt r s) (sym (is ∙ unfolds (goals_of cur.goals)))
        (stops-so (goals_of cur.goals) s (step l (goals_of cur.goals) m i) (run_parts l n m (total - (i + 1)) (i + 1)) q item part (ap (λ (z : State). goals_of z.goals) (sym same) ∙ ap goals_of goals))

  -- all of them
  pub parts_done : (n : ℕ) (m : Step) (total i : ℕ) (a cur : State) → total ≤ i → i ≤ total → run_parts l n m total 0 (goals_of a.goals) ≡ run_parts l n m (total - i) i (goals_of cur.goals) → Carries l i a cur →
      (run_parts l n m total 0 (goals_of a.goals) ≡ Ok (goals_of cur.goals)) × Carries l total a cur
  parts_done n m total i a cur ge le is c =
      (is ∙ ap (λ k. run_parts l n m k i (goals_of cur.goals)) (ends ge), subst (λ k. Carries l k a cur) (omega (arith, ge, le)) c)
    where
      ends : total ≤ i → total - i ≡ 0
      ends ge = omega (arith, ge)

  -- ---- hints

  pub hint_stops : (n : ℕ) (gs : List moves.Goal) (s : RustStop) → gs ≡ [] → n ≡ s.item → 0 ≡ s.part → NoGoal ≡ cause_of s.cause → [] ≡ goals_of s.goals → StopsAt (hinted n gs) s
  hint_stops n [] s e item part cause goals = (item, part, inl cause, goals)
  hint_stops n (g ∷ gs) s e item part cause goals = absurd (cc)

  pub hint_goes : (n : ℕ) (a : State) {b : Bool} → b ≡ false → (a.goals ≡ [] → IsTrue b) → (hinted n (goals_of a.goals) ≡ Ok (goals_of a.goals)) × Carries l 0 a a
  hint_goes n a is e = (go a.goals (λ none. false≢true (sym is ∙ e none)), carries_still 0 a)
    where
      go : (gs : List Goal) → (gs ≡ [] → ⊥) → hinted n (goals_of gs) ≡ Ok (goals_of gs)
      go [] some = absurd (some refl)
      go (g ∷ gs) some = refl
