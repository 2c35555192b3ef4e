-- The walk along needs that can't be placed, and the loop at its end.
use Rattle.std.proofs.Common.{◌≡◌, ◌≢◌, ℕ, ◌+◌, ◌-◌, ◌<◌, Bool, false, not, List, [], ◌∷◌, ◌++◌, length, take, drop, refl, sym, ap, ◌∙◌, subst, inl, inr, arith, Some}
use Rattle.std.specs.Prelude.{find, slice_index, EachIndex}
use Rattle.std.proofs.lemmas.Bool.{cases_lt, false≢true}
use Rattle.std.proofs.lemmas.List.{get_or_append_left, get_or-append_right, get_or_push, get_or-drop, length_push, length-drop, take-append-drop}
use Rattle.pg_worlds.specs.Flags.{has}
use Rattle.pg_worlds.specs.Worlds.{Worlds, needs_of, IsLoopFrom}
use Rattle.pg_worlds.proofs.Placing.{has_at}

-- the worlds met so far, each with its first need that can't be placed behind it, the last one with the world at hand
pub record IsWalk (g : Worlds) (can : ℕ → Bool) (start : ℕ) (ws : List ℕ) (x : ℕ) : Type 0 where
  pub starts : slice_index (ws ++ x ∷ []) 0 ≡ start
  pub follows : EachIndex ws (λ i. find (λ v. not (can v)) (needs_of g (slice_index ws i)) ≡ Some (slice_index (ws ++ x ∷ []) (i + 1)))
  pub met_once : (i j : ℕ) → i < j → j < length ws → slice_index ws i ≢ slice_index ws j

pub walk_none : (g : Worlds) (can : ℕ → Bool) (start : ℕ) → IsWalk g can start [] start
walk_none g can start = record { starts = refl; follows = λ i h. absurd (omega arith); met_once = λ i j l h. absurd (omega arith) }

pub walk_more : (g : Worlds) (can : ℕ → Bool) (start : ℕ) (ws : List ℕ) (x y : ℕ) → IsWalk g can start ws x → has ws x ≡ false → find (λ v. not (can v)) (needs_of g x) ≡ Some y
    → IsWalk g can start (ws ++ x ∷ []) y
walk_more g can start ws x y walk new next =
    let len = length_push ws x in
    record {
      starts = get_or_append_left (ws ++ x ∷ []) (y ∷ []) 0 0 (omega (arith, len)) ∙ walk.starts;
      follows = λ i h.
          let P : ℕ → ℕ → Type 0 = λ w v. find (λ v. not (can v)) (needs_of g w) ≡ Some v in
          elim (cases_lt i (length ws)) [
            | inl l ↦ subst (P (slice_index (ws ++ x ∷ []) i)) (sym (get_or_append_left (ws ++ x ∷ []) (y ∷ []) 0 (i + 1) (omega (arith, len)))) (subst (λ w. P w (slice_index (ws ++ x ∷ []) (i + 1))) (sym (get_or_append_left ws (x ∷ []) 0 i l)) (walk.follows i l))
            | inr l ↦
                let here : length ws ≡ i = omega (arith, len) in
                subst (P (slice_index (ws ++ x ∷ []) i)) (sym (get_or_push (ws ++ x ∷ []) y 0 (i + 1) (omega (arith, len)))) (subst (λ w. P w y) (sym (get_or_push ws x 0 i here)) next)
          ];
      met_once = λ i j l h same.
          elim (cases_lt j (length ws)) [
            | inl in' ↦ walk.met_once i j l in' (sym (get_or_append_left ws (x ∷ []) 0 i (omega arith)) ∙ same ∙ get_or_append_left ws (x ∷ []) 0 j in')
            | inr out ↦
                let here : length ws ≡ j = omega (arith, len) in
                false≢true (sym new ∙ has_at ws i x (omega arith) (sym (get_or_append_left ws (x ∷ []) 0 i (omega arith)) ∙ same ∙ get_or_push ws x 0 j here))
          ];
    }

-- where the world at hand was met at place p, the worlds from there on are the loop
pub walk_closes : (g : Worlds) (can : ℕ → Bool) (start : ℕ) (ws : List ℕ) (x p : ℕ) → IsWalk g can start ws x → p < length ws → slice_index ws p ≡ x → IsLoopFrom g can start (drop p ws)
walk_closes g can start ws x p walk h here =
    let loop : List ℕ = drop p ws in
    let P : List ℕ → Type 0 = λ all.
    (slice_index all 0 ≡ start)
    × EachIndex all (λ i. find (λ v. not (can v)) (needs_of g (slice_index all i)) ≡ Some (slice_index (all ++ loop) (i + 1)))
    × ((i j : ℕ) → i < j → j < length all → slice_index all i ≢ slice_index all j)
    in
    let next : (i : ℕ) → i < length ws → slice_index (ws ++ x ∷ []) (i + 1) ≡ slice_index (ws ++ loop) (i + 1) =
    λ i l. elim (cases_lt (i + 1) (length ws)) [
      | inl in' ↦ get_or_append_left ws (x ∷ []) 0 (i + 1) in' ∙ sym (get_or_append_left ws loop 0 (i + 1) in')
      | inr out ↦
          let end : length ws ≡ i + 1 = omega arith in
          get_or_push ws x 0 (i + 1) end ∙ sym here ∙ ap (slice_index ws) (let z : p ≡ p + 0 = omega arith in z) ∙ sym (get_or-drop p ws 0 0)
          ∙ ap (slice_index loop) (let z : 0 ≡ (i + 1) - (i + 1) = omega arith in z)
          ∙ sym (get_or-append_right ws loop (i + 1) (i + 1) 0 end (omega arith))
    ] in
    let all : P ws =
    (sym (get_or_append_left ws (x ∷ []) 0 0 (omega arith)) ∙ walk.starts, λ i l. walk.follows i l ∙ ap Some (next i l), walk.met_once) in
    let split : P (take p ws ++ loop) = subst P (sym (take-append-drop p ws)) all in
    record {
      lead = take p ws;
      some_world = omega (arith, length-drop p ws);
      starts = split.0;
      follows = split.1;
      met_once = split.2;
    }
