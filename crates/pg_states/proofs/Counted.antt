-- The size of a closed formula by its parts.
use Rattle.std.proofs.Common.{◌≡◌, ℕ, ◌+◌, ◌-◌, ◌^◌, ◌==◌, min, max, arith, ◌<◌, ◌≤◌, nat_lt, if◌then◌else◌, Some, None, Bool, true, false, cond, List, [], ◌∷◌, refl, ap, ◌∙◌}
use Rattle.pg_logic.specs.Tree.{Tm, free, bound, nought, succ, app, Tms, none, arg, Fm, falsum, eq, pred, and, or, imp, all, ex, nodes, nodes_all, nodes_of, height, height_all, height_of, mapped, mapped_all, mapped_formula, closed_free, kept_bound}
use Rattle.std.proofs.lemmas.Bool.Decides.{nat_tests}
use Rattle.pg_gametext.specs.Faults.{least, fault, Limit, Nodes, Height, size_faults, fault_if, node_limit, height_limit}
use Rattle.pg_gametext.specs.Reading.{Binder, var, hyp, closed_from}
use Rattle.pg_states.specs.Sizes.{nodes_under, height_under}

leaf-nodes : (b : Bool) (d i : ℕ) → nodes (cond b (bound d) (free i)) ≡ 1
leaf-nodes true d i = refl
leaf-nodes false d i = refl

leaf-height : (b : Bool) (d i : ℕ) → height (cond b (bound d) (free i)) ≡ 1
leaf-height true d i = refl
leaf-height false d i = refl

mutual
  nodes-closed : (k d : ℕ) (t : Tm) → nodes (mapped (closed_free k) kept_bound d t) ≡ nodes t
  nodes-closed k d (free i) = leaf-nodes (i == k) d i
  nodes-closed k d (bound i) = refl
  nodes-closed k d nought = refl
  nodes-closed k d (succ t) = ap (λ n. n + 1) (nodes-closed k d t)
  nodes-closed k d (app f ts) = ap (λ n. n + 1) (nodes_all-closed k d ts)

  nodes_all-closed : (k d : ℕ) (ts : Tms) → nodes_all (mapped_all (closed_free k) kept_bound d ts) ≡ nodes_all ts
  nodes_all-closed k d none = refl
  nodes_all-closed k d (arg t ts) = rw (nodes-closed k d t, nodes_all-closed k d ts) refl

mutual
  height-closed : (k d : ℕ) (t : Tm) → height (mapped (closed_free k) kept_bound d t) ≡ height t
  height-closed k d (free i) = leaf-height (i == k) d i
  height-closed k d (bound i) = refl
  height-closed k d nought = refl
  height-closed k d (succ t) = ap (λ n. n + 1) (height-closed k d t)
  height-closed k d (app f ts) = ap (λ n. n + 1) (height_all-closed k d ts)

  height_all-closed : (k d : ℕ) (ts : Tms) → height_all (mapped_all (closed_free k) kept_bound d ts) ≡ height_all ts
  height_all-closed k d none = refl
  height_all-closed k d (arg t ts) = rw (height-closed k d t, height_all-closed k d ts) refl

nodes_of-closed : (k d : ℕ) (a : Fm) → nodes_of (mapped_formula (closed_free k) kept_bound d a) ≡ nodes_of a
nodes_of-closed k d falsum = refl
nodes_of-closed k d (eq s t) = rw (nodes-closed k d s, nodes-closed k d t) refl
nodes_of-closed k d (pred p ts) = rw (nodes_all-closed k d ts) refl
nodes_of-closed k d (and a b) = rw (nodes_of-closed k d a, nodes_of-closed k d b) refl
nodes_of-closed k d (or a b) = rw (nodes_of-closed k d a, nodes_of-closed k d b) refl
nodes_of-closed k d (imp a b) = rw (nodes_of-closed k d a, nodes_of-closed k d b) refl
nodes_of-closed k d (all x a) = rw (nodes_of-closed k (d + 1) a) refl
nodes_of-closed k d (ex x a) = rw (nodes_of-closed k (d + 1) a) refl

height_of-closed : (k d : ℕ) (a : Fm) → height_of (mapped_formula (closed_free k) kept_bound d a) ≡ height_of a
height_of-closed k d falsum = refl
height_of-closed k d (eq s t) = rw (height-closed k d s, height-closed k d t) refl
height_of-closed k d (pred p ts) = rw (height_all-closed k d ts) refl
height_of-closed k d (and a b) = rw (height_of-closed k d a, height_of-closed k d b) refl
height_of-closed k d (or a b) = rw (height_of-closed k d a, height_of-closed k d b) refl
height_of-closed k d (imp a b) = rw (height_of-closed k d a, height_of-closed k d b) refl
height_of-closed k d (all x a) = rw (height_of-closed k (d + 1) a) refl
height_of-closed k d (ex x a) = rw (height_of-closed k (d + 1) a) refl

pub nodes_parts : (k : ℕ) (bs : List Binder) (t : Fm) → nodes_of (closed_from k bs t) ≡ nodes_under bs (nodes_of t)
nodes_parts k [] t = refl
nodes_parts k (var x ∷ bs) t = ap (λ n. n + 1) (nodes_of-closed k 0 (closed_from (k + 1) bs t) ∙ nodes_parts (k + 1) bs t)
nodes_parts k (hyp h a ∷ bs) t = ap (λ n. nodes_of a + n + 1) (nodes_parts k bs t)

pub height_parts : (k : ℕ) (bs : List Binder) (t : Fm) → height_of (closed_from k bs t) ≡ height_under bs (height_of t)
height_parts k [] t = refl
height_parts k (var x ∷ bs) t = ap (λ n. n + 1) (height_of-closed k 0 (closed_from (k + 1) bs t) ∙ height_parts (k + 1) bs t)
height_parts k (hyp h a ∷ bs) t = ap (λ n. max (height_of a) n + 1) (height_parts k bs t)

-- ---- turns of loops

nodes_first : (b : Binder) (more : List Binder) (n : ℕ) → nodes_under (b ∷ more) n ≡ nodes_under (b ∷ []) 0 + nodes_under more n
nodes_first (var x) more n = omega arith
nodes_first (hyp h a) more n = omega arith

pub nodes_turn : (n sum next here whole : ℕ) (b : Binder) (now later : List Binder) → now ≡ b ∷ later → here ≡ min (nodes_under (b ∷ []) 0) (2 ^ 64 - 1)
    → next ≡ min (sum + here) (2 ^ 64 - 1) → min (sum + nodes_under now n) (2 ^ 64 - 1) ≡ whole → min (next + nodes_under later n) (2 ^ 64 - 1) ≡ whole
nodes_turn n sum next here whole b now later is e more before = omega (arith, more, ap (λ (l : List Binder). nodes_under l n) is, nodes_first b later n, e, before)

-- ---- the fault of a size

by_nodes : (at n h m : ℕ) → n ≡ m → 4096 < m
    → least (if nat_lt node_limit n then fault at (Limit Nodes n) ∷ [] else fault_if (nat_lt height_limit h) at (Limit Height h)) ≡ Some (fault at (Limit Nodes m))
by_nodes at n h m e lt =
    let over : nat_lt 4096 n ≡ true = grind (arith, nat_tests, e, lt) in
    rw over (ap (λ (k : ℕ). Some (fault at (Limit Nodes k))) e)

by_height : (at n h m : ℕ) → n ≤ 4096 → h ≡ m → 256 < m
    → least (if nat_lt node_limit n then fault at (Limit Nodes n) ∷ [] else fault_if (nat_lt height_limit h) at (Limit Height h)) ≡ Some (fault at (Limit Height m))
by_height at n h m few e lt =
    let fits : nat_lt 4096 n ≡ false = grind (arith, nat_tests, few) in
    let over : nat_lt 256 h ≡ true = grind (arith, nat_tests, e, lt) in
    rw (fits, over) (ap (λ (k : ℕ). Some (fault at (Limit Height k))) e)

by_neither : (at n h : ℕ) → n ≤ 4096 → h ≤ 256
    → least (if nat_lt node_limit n then fault at (Limit Nodes n) ∷ [] else fault_if (nat_lt height_limit h) at (Limit Height h)) ≡ None
by_neither at n h few low =
    let fits : nat_lt 4096 n ≡ false = grind (arith, nat_tests, few) in
    let under : nat_lt 256 h ≡ false = grind (arith, nat_tests, low) in
    rw (fits, under) refl

pub many : (at : ℕ) (bs : List Binder) (t : Fm) (m : ℕ) → m ≡ min (nodes_under bs (nodes_of t)) (2 ^ 64 - 1) → 4096 < m → m < 2 ^ 32
    → least (size_faults at (closed_from 0 bs t)) ≡ Some (fault at (Limit Nodes m))
many at bs t m e lt small = by_nodes at (nodes_of (closed_from 0 bs t)) (height_of (closed_from 0 bs t)) m (omega (arith, nodes_parts 0 bs t, e, small)) lt

pub high : (at : ℕ) (bs : List Binder) (t : Fm) (n m : ℕ) → n ≡ min (nodes_under bs (nodes_of t)) (2 ^ 64 - 1) → n ≤ 4096
    → m ≡ min (height_under bs (height_of t)) (2 ^ 32 - 1) → 256 < m → m < 2 ^ 32 - 1 → least (size_faults at (closed_from 0 bs t)) ≡ Some (fault at (Limit Height m))
high at bs t n m e few h lt small =
    by_height at (nodes_of (closed_from 0 bs t)) (height_of (closed_from 0 bs t)) m (omega (arith, nodes_parts 0 bs t, e, few)) (omega (arith, height_parts 0 bs t, h, small)) lt

pub fitting : (at : ℕ) (bs : List Binder) (t : Fm) (n m : ℕ) → n ≡ min (nodes_under bs (nodes_of t)) (2 ^ 64 - 1) → n ≤ 4096
    → m ≡ min (height_under bs (height_of t)) (2 ^ 32 - 1) → m ≤ 256 → least (size_faults at (closed_from 0 bs t)) ≡ None
fitting at bs t n m e few h low =
    by_neither at (nodes_of (closed_from 0 bs t)) (height_of (closed_from 0 bs t)) (omega (arith, nodes_parts 0 bs t, e, few)) (omega (arith, height_parts 0 bs t, h, low))
