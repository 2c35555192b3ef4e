-- A formula with the successor of a variable for another one: at most twice as many nodes, and nothing loose.
use Rattle.std.proofs.Common.{◌≡◌, ℕ, ◌+◌, ◌-◌, ◌*◌, ◌≤◌, ◌==◌, Bool, true, false, List, map, arith, subst}
use Rattle.std.specs.Prelude.{All, nat_lt, if◌then◌else◌}
use Rattle.std.proofs.lemmas.Bool.{lt-ltb}
use Rattle.pg_logic.specs.Tree.{Tm, free, bound, nought, succ, app, Tms, none, arg, Fm, falsum, eq, pred, and, or, imp, all, ex, nodes, nodes_all, nodes_of, mapped, mapped_all, mapped_formula, kept_free, kept_bound, opened_bound, closed_free}
use Rattle.pg_logic.specs.Signature.{Signature, fits, fits_term}
use Rattle.pg_moves.specs.Holding.{put_for}
use Rattle.pg_moves.specs.Proofs.{hyp_formula as moves_formula}
use Rattle.pg_moves.proofs.Fitted.{fits-put}
use Rattle.pg_goal.specs.declared.goal.Hyp as rust
use Rattle.pg_goal.specs.View.{hyp_of}
use Rattle.pg_reduction.specs.Limits.{hyp_formula}
use Rattle.pg_inducts.specs.Carrying.{IsSmall, MayDouble, CanStep}
use Rattle.pg_inducts.proofs.Held.{fits-tight, hyp-formulas}

bound-nodes : (n d i : ℕ) → nodes (opened_bound (succ (free n)) d i) ≤ 2
bound-nodes n d i = go (i == d)
  where
    go : (b : Bool) → nodes (if b then succ (free n) else bound (if nat_lt d i then i - 1 else i)) ≤ 2
    go true = omega arith
    go false = omega arith

free-nodes : (n d i : ℕ) (b : Bool) → nodes (mapped kept_free (opened_bound (succ (free n))) d (if b then bound d else free i)) ≤ 2
free-nodes n d i true = bound-nodes n d d
free-nodes n d i false = omega arith

mutual
  twice : (k n d : ℕ) (t : Tm) → nodes (mapped kept_free (opened_bound (succ (free n))) d (mapped (closed_free k) kept_bound d t)) ≤ 2 * nodes t
  twice k n d (free i) = free-nodes n d i (i == k)
  twice k n d (bound i) = bound-nodes n d i
  twice k n d nought = omega arith
  twice k n d (succ t) = omega (arith, twice k n d t)
  twice k n d (app f ts) = omega (arith, twice-all k n d ts)

  twice-all : (k n d : ℕ) (ts : Tms) → nodes_all (mapped_all kept_free (opened_bound (succ (free n))) d (mapped_all (closed_free k) kept_bound d ts)) ≤ 2 * nodes_all ts
  twice-all k n d none = omega arith
  twice-all k n d (arg t ts) = omega (arith, twice k n d t, twice-all k n d ts)

twice-of : (k n d : ℕ) (a : Fm) → nodes_of (mapped_formula kept_free (opened_bound (succ (free n))) d (mapped_formula (closed_free k) kept_bound d a)) ≤ 2 * nodes_of a
twice-of k n d falsum = omega arith
twice-of k n d (eq t u) = omega (arith, twice k n d t, twice k n d u)
twice-of k n d (pred p ts) = omega (arith, twice-all k n d ts)
twice-of k n d (and a b) = omega (arith, twice-of k n d a, twice-of k n d b)
twice-of k n d (or a b) = omega (arith, twice-of k n d a, twice-of k n d b)
twice-of k n d (imp a b) = omega (arith, twice-of k n d a, twice-of k n d b)
twice-of k n d (all x a) = omega (arith, twice-of k n (d + 1) a)
twice-of k n d (ex x a) = omega (arith, twice-of k n (d + 1) a)

pub can-step : (s : Signature) (n k : ℕ) (a : Fm) → fits s n 0 a ≡ true → MayDouble a → CanStep k n a
can-step s n k a f small =
    let new-fits : fits_term s.functions (n + 1) 0 (free n) ≡ true = lt-ltb n (n + 1) (omega arith) in
    record {
      small = omega (arith, small, twice-of k n 0 a);
      tight = fits-tight s (n + 1) 0 (put_for k (succ (free n)) a) (fits-put s n (n + 1) k (succ (free n)) a (omega arith) new-fits f);
    }

pub all-can-step : (s : Signature) (n k : ℕ) (hs : List rust.Hyp) → All (λ a. fits s n 0 a ≡ true) (map moves_formula (map hyp_of hs)) → All MayDouble (map hyp_formula hs) → All (CanStep k n) (map hyp_formula hs)
all-can-step s n k hs f small = λ i d lt. can-step s n k _ (subst (All (λ a. fits s n 0 a ≡ true)) (hyp-formulas hs) f i d lt) (small i d lt)

pub single : (a : Fm) → MayDouble a → IsSmall a
single a small = omega (arith, small)

pub all-single : (as' : List Fm) → All MayDouble as' → All IsSmall as'
all-single as' small = λ i d lt. single _ (small i d lt)
