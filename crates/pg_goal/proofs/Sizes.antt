-- The sizes of opened terms and formulas.
use Rattle.std.proofs.Common.{◌≡◌, ℕ, ◌+◌, ◌-◌, ◌*◌, ◌^◌, ◌<◌, ◌≤◌, min, Bool, true, false, List, take, length, get_or, ap, ◌∙◌, arith}
use Rattle.std.specs.Prelude.{◌==◌, nat_lt, if◌then◌else◌}
use Rattle.pg_logic.specs.Tree.{Tm, free, bound, nought, succ, app, Tms, none, arg, Fm, falsum, eq, pred, and, or, imp, all, ex, nodes, nodes_all, nodes_of, mapped, mapped_all, kept_free, opened_bound, opened_formula}
use Rattle.pg_terms.specs.declared.term.Term.{Term}
use Rattle.pg_terms.specs.View.{term, args}
use Rattle.pg_terms.proofs.Lists.{args-more, mapped_all-push, nodes_all-push}
use Rattle.pg_goal.specs.Sizes.{opened_nodes, all_opened_nodes, formula_nodes}

-- one turn of the sum
pub all_nodes_turn : (s : Tm) (d : ℕ) (ts : List Term) (i : ℕ) (t : Term) (sum here : ℕ) → i < length ts → t ≡ get_or ts i t →
    sum ≡ min (all_opened_nodes s d (args (take i ts))) (2 ^ 64 - 1) → here ≡ min (opened_nodes s d (term t)) (2 ^ 64 - 1) →
    min (sum + here) (2 ^ 64 - 1) ≡ min (all_opened_nodes s d (args (take (i + 1) ts))) (2 ^ 64 - 1)
all_nodes_turn s d ts i t sum here lt is before now =
    let f = mapped_all kept_free (opened_bound s) d in
    let e = ap (λ us. nodes_all (f us)) (args-more ts i t lt is) ∙ ap nodes_all (mapped_all-push kept_free (opened_bound s) d (args (take i ts)) (term t))
    ∙ nodes_all-push (f (args (take i ts))) (mapped kept_free (opened_bound s) d (term t)) in
    omega (arith, e, before, now)

-- ---- no more nodes than so many times as many

bound-nodes : (s : Tm) (d i : ℕ) → nodes s ≤ 8192 → nodes (opened_bound s d i) ≤ 8192
bound-nodes s d i le = go (i == d)
  where
    go : (b : Bool) → nodes (if b then s else bound (if nat_lt d i then i - 1 else i)) ≤ 8192
    go true = le
    go false = omega arith

mutual
  opened-few : (s : Tm) (d : ℕ) (t : Tm) → nodes s ≤ 8192 → opened_nodes s d t ≤ 8192 * nodes t
  opened-few s d (free i) le = omega arith
  opened-few s d (bound i) le = omega (arith, bound-nodes s d i le)
  opened-few s d nought le = omega arith
  opened-few s d (succ t) le = omega (arith, opened-few s d t le)
  opened-few s d (app f ts) le = omega (arith, all-opened-few s d ts le)

  all-opened-few : (s : Tm) (d : ℕ) (ts : Tms) → nodes s ≤ 8192 → all_opened_nodes s d ts ≤ 8192 * nodes_all ts
  all-opened-few s d none le = omega arith
  all-opened-few s d (arg t ts) le = omega (arith, opened-few s d t le, all-opened-few s d ts le)

formula-few : (s : Tm) (d : ℕ) (a : Fm) → nodes s ≤ 8192 → formula_nodes s d a ≤ 8192 * nodes_of a
formula-few s d falsum le = omega arith
formula-few s d (eq t u) le = omega (arith, opened-few s d t le, opened-few s d u le)
formula-few s d (pred p ts) le = omega (arith, all-opened-few s d ts le)
formula-few s d (and a b) le = omega (arith, formula-few s d a le, formula-few s d b le)
formula-few s d (or a b) le = omega (arith, formula-few s d a le, formula-few s d b le)
formula-few s d (imp a b) le = omega (arith, formula-few s d a le, formula-few s d b le)
formula-few s d (all x a) le = omega (arith, formula-few s (d + 1) a le)
formula-few s d (ex x a) le = omega (arith, formula-few s (d + 1) a le)

-- so the count is exact where the body is small, and the term
pub opened_exact : (a : Fm) (t : Tm) (by size : ℕ) → nodes_of a ≤ 4096 → nodes t ≤ 8192 → by ≡ min (nodes t) (2 ^ 64 - 1) →
    ((s : Tm) → by ≡ min (nodes s) (2 ^ 64 - 1) → size ≡ min (nodes_of (opened_formula s a)) (2 ^ 64 - 1)) → size ≡ nodes_of (opened_formula t a)
opened_exact a t by size few small is count = omega (arith, formula-few t 0 a small, few, count t is)
