-- A tree is no higher than it has nodes, so that a small one is measured exactly.
use Rattle.std.proofs.Common.{◌≡◌, ◌≤◌, ◌+◌, ◌*◌, ◌-◌, ◌^◌, ℕ, ap, ◌∙◌, arith, min}
use Rattle.pg_logic.specs.Tree.{Tm, free, bound, nought, succ, app, Tms, none, arg, Fm, falsum, eq, pred, and, or, imp, all, ex, nodes, nodes_all, nodes_of, height, height_all, height_of}
use Rattle.pg_logic.specs.Axioms.{constant_axiom}
use Rattle.pg_gametext.specs.Faults.{least, size_faults}
use Rattle.pg_declares.specs.Judged.{sized}

mutual
  pub term-low : (t : Tm) → height t ≤ nodes t
  term-low (free i) = omega arith
  term-low (bound i) = omega arith
  term-low nought = omega arith
  term-low (succ t) = omega (arith, term-low t)
  term-low (app f ts) = omega (arith, terms-low ts)

  terms-low : (ts : Tms) → height_all ts ≤ nodes_all ts
  terms-low none = omega arith
  terms-low (arg t ts) = omega (arith, term-low t, terms-low ts)

pub term-some : (t : Tm) → 1 ≤ height t
term-some (free i) = omega arith
term-some (bound i) = omega arith
term-some nought = omega arith
term-some (succ t) = omega arith
term-some (app f ts) = omega arith

formula-low : (a : Fm) → height_of a ≤ nodes_of a
formula-low falsum = omega arith
formula-low (eq s t) = omega (arith, term-low s, term-low t)
formula-low (pred p ts) = omega (arith, terms-low ts)
formula-low (and a b) = omega (arith, formula-low a, formula-low b)
formula-low (or a b) = omega (arith, formula-low a, formula-low b)
formula-low (imp a b) = omega (arith, formula-low a, formula-low b)
formula-low (all x a) = omega (arith, formula-low a)
formula-low (ex x a) = omega (arith, formula-low a)

same-size : (at n m h k : ℕ) → n ≡ m → h ≡ k → least (sized at n h) ≡ least (sized at m k)
same-size at n m h k e f = ap (λ n. least (sized at n h)) e ∙ ap (λ h. least (sized at m h)) f

pub formula_exact : (at : ℕ) (a : Fm) (n h : ℕ) → nodes_of a ≤ 3 * 8192 → n ≡ min (nodes_of a) (2 ^ 64 - 1) → h ≡ min (height_of a) (2 ^ 32 - 1)
    → least (sized at n h) ≡ least (size_faults at a)
formula_exact at a n h few en eh = same-size at n (nodes_of a) h (height_of a) (omega (arith, few, en)) (omega (arith, few, eh, formula-low a))

pub term_exact : (at k : ℕ) (t : Tm) (n h : ℕ) → nodes t ≤ 8192 → n ≡ min (nodes t) (2 ^ 64 - 1) → h ≡ min (height t) (2 ^ 32 - 1)
    → least (sized at (n + 2) (h + 1)) ≡ least (size_faults at (constant_axiom k t))
term_exact at k t n h few en eh =
    same-size at (n + 2) (nodes_of (constant_axiom k t)) (h + 1) (height_of (constant_axiom k t)) (omega (arith, few, en)) (omega (arith, few, eh, term-low t, term-some t))
