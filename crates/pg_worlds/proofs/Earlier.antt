-- A level that stands before another has a smaller number.
use Rattle.std.proofs.Common.{◌≡◌, ℕ, ◌-◌, ◌<◌, ◌≤◌, List, [], ◌∷◌, ◌++◌, length, map, replicate, suc, sym, ap, ◌∙◌, inl, inr, arith}
use Rattle.std.specs.Prelude.{slice_index, flat_map}
use Rattle.std.proofs.lemmas.Bool.{cases_lt}
use Rattle.std.proofs.lemmas.List.{get_or_append_left, get_or-append_right, get_or-replicate, get_or-map, length-append, length-replicate, length-map}
use Rattle.pg_worlds.specs.Flags.{has}
use Rattle.pg_worlds.specs.Worlds.{Worlds, needs_of, world_count, IsGraph, IsWorldOrder}
use Rattle.pg_worlds.specs.Course.{Level, no_level, Plan, IsPlan, Needs, IsBefore, world_of}
use Rattle.pg_worlds.proofs.Placing.{has_place}
use Rattle.pg_worlds.proofs.Reached.{apart, in_range}

-- where each of a list stands some times in a row, a later place comes from a later one or the same
later_place : (times : ℕ → ℕ) (order : List ℕ) (x y : ℕ) → x ≤ y → y < length (flat_map (λ w. replicate (times w) w) order)
    → (p : ℕ) × (q : ℕ) × (p ≤ q) × (q < length order) × (slice_index order p ≡ slice_index (flat_map (λ w. replicate (times w) w) order) x) × (slice_index order q ≡ slice_index (flat_map (λ w. replicate (times w) w) order) y)
later_place times [] x y l h = absurd (omega arith)
later_place times (w ∷ ws) x y l h =
    let n = times w in
    let row : List ℕ = replicate n w in
    let rest : List ℕ = flat_map (λ w. replicate (times w) w) ws in
    let long : length row ≡ n = length-replicate n w in
    let whole = length-append row rest in
    let in_row : (i : ℕ) → i < n → w ≡ slice_index (row ++ rest) i =
    λ i b. sym (get_or_append_left row rest 0 i (omega arith) ∙ get_or-replicate n i w 0 b) in
    let past : (i : ℕ) → n ≤ i → slice_index (row ++ rest) i ≡ slice_index rest (i - n) = λ i b. get_or-append_right row rest n i 0 long b in
    elim (cases_lt y n) [
      | inl y_in ↦ (0, 0, omega arith, omega arith, in_row x (omega arith), in_row y y_in)
      | inr y_past ↦
          elim (cases_lt x n) [
            | inl x_in ↦
                let r = later_place times ws (y - n) (y - n) (omega arith) (omega arith) in
                (0, suc r.1, omega arith, omega (arith, r.3), in_row x x_in, r.5 ∙ sym (past y y_past))
            | inr x_past ↦
                let r = later_place times ws (x - n) (y - n) (omega arith) (omega arith) in
                (suc r.0, suc r.1, omega (arith, r.2), omega (arith, r.3), r.4 ∙ sym (past x x_past), r.5 ∙ sym (past y y_past))
          ]
    ]

-- a world stands behind all that it needs, directly or through others
behind_all : (g : Worlds) (order : List ℕ) → IsGraph g → IsWorldOrder g order → (p a : ℕ) → slice_index order p ≡ a → (q b : ℕ) → p ≤ q → q < length order → slice_index order q ≡ b → Needs g a b → ⊥
behind_all g order graph ordered p a is_a q b l h is_b (Needs.directly _ e) =
    apart g order ordered p q l h (ap (λ w. has (needs_of g w) (slice_index order q)) is_a ∙ ap (has (needs_of g a)) is_b ∙ e)
behind_all g order graph ordered p a is_a q b l h is_b (Needs.through c _ n e) =
    let r = has_place order c (ordered.every_world c (in_range g graph a c n)) in
    elim (cases_lt r.0 p) [
      | inl before ↦ apart g order ordered r.0 q (omega arith) h (ap (λ w. has (needs_of g w) (slice_index order q)) r.2 ∙ ap (has (needs_of g c)) is_b ∙ e)
      | inr after ↦ behind_all g order graph ordered p a is_a r.0 c after r.1 r.2 n
    ]

pub earlier : (p : Plan) → IsPlan p → (level k : ℕ) → level < length p.levels → IsBefore p level k → k < level
earlier p plan level k h before =
    elim before.1 [
      | inr same ↦ same.1
      | inl needed ↦
          elim (cases_lt k level) [
            | inl less ↦ less
            | inr more ↦
                let worlds : List ℕ = map (λ (l : Level). l.world) p.levels in
                let times : ℕ → ℕ = slice_index p.worlds.levels in
                let flat : List ℕ = flat_map (λ w. replicate (times w) w) p.order in
                let long : length flat ≡ length p.levels = sym (ap length plan.by_world) ∙ length-map p.levels (λ (l : Level). l.world) in
                let r = later_place times p.order level k more (omega (arith, before.0)) in
                let at : (i : ℕ) → i < length p.levels → slice_index flat i ≡ world_of p i =
                λ i b. sym (ap (λ (xs : List ℕ). slice_index xs i) plan.by_world) ∙ get_or-map (λ (l : Level). l.world) p.levels i no_level 0 b in
                absurd (behind_all p.worlds p.order plan.graph plan.ordered r.0 (world_of p level) (r.4 ∙ at level h) r.1 (world_of p k) r.2 r.3 (r.5 ∙ at k before.0) needed)
          ]
    ]

-- the world of a level is one of the 64
pub world_below : (p : Plan) → IsPlan p → (k : ℕ) → k < length p.levels → world_of p k < 64
world_below p plan k h =
    let times : ℕ → ℕ = slice_index p.worlds.levels in
    let flat : List ℕ = flat_map (λ w. replicate (times w) w) p.order in
    let long : length flat ≡ length p.levels = sym (ap length plan.by_world) ∙ length-map p.levels (λ (l : Level). l.world) in
    let r = later_place times p.order k k (omega arith) (omega arith) in
    let here : slice_index p.order r.0 ≡ world_of p k = r.4 ∙ sym (ap (λ (xs : List ℕ). slice_index xs k) plan.by_world) ∙ get_or-map (λ (l : Level). l.world) p.levels k no_level 0 h in
    let l : slice_index p.order r.0 < world_count p.worlds = (plan.ordered.first_each_time r.0 (omega (arith, r.2, r.3))).0 in
    omega (arith, plan.graph.at_most)
