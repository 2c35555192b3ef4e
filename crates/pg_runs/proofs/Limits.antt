-- What is known of goals within the limits.
use Rattle.std.proofs.Common.{◌≡◌, ℕ, ◌≤◌, true, false, List, [], ◌∷◌, ◌++◌, length, map, Option, Some, None, refl, subst, arith}
use Rattle.std.specs.Prelude.{nat_lt, flat_map, if◌then◌else◌}
use Rattle.std.specs.List.{sum_by, AllByRecursion}
use Rattle.std.proofs.lemmas.List.Sums.{sum-map, sum_by-cons}
use Rattle.std.proofs.lemmas.Bool.{ltb-false}
use Rattle.std.proofs.lemmas.List.{length-append, length-map}
use Rattle.pg_logic.specs.Tree.{Fm, falsum, eq, pred, and, or, imp, all, ex, nodes_of}
use Rattle.pg_moves.specs.Goals.{Goal, Hyp}
use Rattle.pg_moves.specs.Causes.{Cause, TooLarge, TooMany, State}
use Rattle.pg_moves.specs.Measures.{over, first_over, formulas, goal_nodes, all_nodes, block_measures, goal_measures, first_large}

-- where nothing of two lists is over, nothing of the second is
behind : (xs ys : List (Option Cause)) → first_over (xs ++ ys) ≡ None → first_over ys ≡ None
behind [] ys e = e
behind (None ∷ xs) ys e = behind xs ys e
behind (Some c ∷ xs) ys e = absurd (cc)

within : (limit n : ℕ) (c : Cause) → over limit n c ≡ None → n ≤ limit
within limit n c e = elim (nat_lt limit n) as (λ b. nat_lt limit n ≡ b → (if b then Some c else None) ≡ None → n ≤ limit) [
  | true ↦ λ _ q. absurd (cc)
  | false ↦ λ is _. ltb-false limit n is
] refl e

last-over : (a b : Option Cause) → first_over (a ∷ b ∷ []) ≡ None → b ≡ None
last-over None None e = refl
last-over None (Some c) e = absurd (cc)
last-over (Some c) b e = absurd (cc)

-- a block within the limits has at most 65,536 nodes
block-small : (new block : List Goal) → first_large new block ≡ None → all_nodes block ≤ 65536
block-small new block e =
    within 65536 (all_nodes block) (TooLarge State (all_nodes block))
    (last-over (over 64 (length block) (TooMany (length block))) (over 65536 (all_nodes block) (TooLarge State (all_nodes block)))
    (behind (flat_map goal_measures new) (block_measures block) e))

-- ---- so each goal is small

goal-below : (gs : List Goal) → sum_by goal_nodes gs ≤ 65536 → AllByRecursion (λ (g : Goal). sum_by nodes_of (formulas g) ≤ 65536) gs
goal-below [] le = tt
goal-below (g ∷ gs) le =
    let c = sum_by-cons goal_nodes g gs in
    (omega (arith, le, c, sum-map nodes_of (formulas g)), goal-below gs (omega (arith, le, c)))

formula-below : (m : ℕ) (fs : List Fm) → sum_by nodes_of fs ≤ m → AllByRecursion (λ a. nodes_of a ≤ m) fs
formula-below m [] le = tt
formula-below m (a ∷ more) le = let c = sum_by-cons nodes_of a more in (omega (arith, le, c), formula-below m more (omega (arith, le, c)))

some-node : (a : Fm) → 1 ≤ nodes_of a
some-node falsum = omega arith
some-node (eq s t) = omega arith
some-node (pred p ts) = omega arith
some-node (and a b) = omega arith
some-node (or a b) = omega arith
some-node (imp a b) = omega arith
some-node (all x a) = omega arith
some-node (ex x a) = omega arith

count-below : (fs : List Fm) → length fs ≤ sum_by nodes_of fs
count-below [] = omega arith
count-below (a ∷ more) = let p = some-node a in let q = count-below more in let c = sum_by-cons nodes_of a more in omega (arith, p, q, c)

-- at most so many nodes, and so few hypotheses
pub record IsSmall (g : Goal) : Type 0 where
  pub hyps : length g.hyps ≤ 65536
  pub formulas : AllByRecursion (λ a. nodes_of a ≤ 65536) (formulas g)

small : (g : Goal) → sum_by nodes_of (formulas g) ≤ 65536 → IsSmall g
small g le =
    let n = count-below (formulas g) in
    let m = length-append (map (λ (h : Hyp). h.formula) g.hyps) (g.target ∷ []) in
    record { hyps = omega (arith, le, n, m, length-map g.hyps (λ (h : Hyp). h.formula)); formulas = formula-below 65536 (formulas g) le }

all-small : (gs : List Goal) → AllByRecursion (λ (g : Goal). sum_by nodes_of (formulas g) ≤ 65536) gs → AllByRecursion IsSmall gs
all-small [] a = tt
all-small (g ∷ gs) a = (small g a.0, all-small gs a.1)

-- each goal of a block within the limits is small
pub within-small : (new block : List Goal) → first_large new block ≡ None → AllByRecursion IsSmall block
within-small new block e = all-small block (goal-below block (subst (λ n. n ≤ 65536) (sum-map goal_nodes block) (block-small new block e)))
