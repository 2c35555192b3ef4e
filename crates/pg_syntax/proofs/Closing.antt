-- A formula closed over a variable: as many nodes, and nothing loose under its binder.
use Rattle.std.proofs.Common.{◌≡◌, ℕ, ◌+◌, ◌^◌, ◌<◌, ◌≤◌, ◌-◌, ◌==◌, nat_lt, length, take, drop, Bool, true, false, cond, List, [], ◌∷◌, refl, ap, ap₂, ◌∙◌, arith}
use Rattle.std.proofs.lemmas.List.{take_all}
use Rattle.std.proofs.lemmas.Bool.{and_parts, and_from}
use Rattle.std.proofs.lemmas.Bool.Decides.{nat_tests}
use Rattle.pg_logic.specs.Tree.{Tm, free, bound, nought, succ, app, Tms, none, arg, Fm, falsum, eq, pred, and, or, imp, all, ex, nodes, nodes_all, nodes_of, mapped, mapped_all, mapped_formula, closed_free, kept_bound, is_tight, are_tight, is_tight_formula}
use Rattle.pg_terms.specs.View.{formula}
use Rattle.pg_syntax.specs.declared.statement.Binder.{Binder}
use Rattle.pg_syntax.specs.declared.statement.Binder.TheVariants.{Var, Hyp}
use Rattle.pg_syntax.specs.Statements.{closed_from, AreTight, total}

leaf-nodes : (b : Bool) (d i : ℕ) → nodes (cond b (bound d) (free i)) ≡ 1
leaf-nodes true d i = refl
leaf-nodes false d i = refl

mutual
  nodes-closed : (k d : ℕ) (t : Tm) → nodes (mapped (closed_free k) kept_bound d t) ≡ nodes t
  nodes-closed k d (free i) = leaf-nodes (i == k) d i
  nodes-closed k d (bound i) = refl
  nodes-closed k d nought = refl
  nodes-closed k d (succ t) = ap (λ n. n + 1) (nodes-closed k d t)
  nodes-closed k d (app f ts) = ap (λ n. n + 1) (nodes_all-closed k d ts)

  nodes_all-closed : (k d : ℕ) (ts : Tms) → nodes_all (mapped_all (closed_free k) kept_bound d ts) ≡ nodes_all ts
  nodes_all-closed k d none = refl
  nodes_all-closed k d (arg t ts) = ap₂ (λ n m. n + m) (nodes-closed k d t) (nodes_all-closed k d ts)

nodes_of-closed : (k d : ℕ) (a : Fm) → nodes_of (mapped_formula (closed_free k) kept_bound d a) ≡ nodes_of a
nodes_of-closed k d falsum = refl
nodes_of-closed k d (eq s t) = ap₂ (λ n m. n + m + 1) (nodes-closed k d s) (nodes-closed k d t)
nodes_of-closed k d (pred p ts) = ap (λ n. n + 1) (nodes_all-closed k d ts)
nodes_of-closed k d (and a b) = ap₂ (λ n m. n + m + 1) (nodes_of-closed k d a) (nodes_of-closed k d b)
nodes_of-closed k d (or a b) = ap₂ (λ n m. n + m + 1) (nodes_of-closed k d a) (nodes_of-closed k d b)
nodes_of-closed k d (imp a b) = ap₂ (λ n m. n + m + 1) (nodes_of-closed k d a) (nodes_of-closed k d b)
nodes_of-closed k d (all x a) = ap (λ n. n + 1) (nodes_of-closed k (d + 1) a)
nodes_of-closed k d (ex x a) = ap (λ n. n + 1) (nodes_of-closed k (d + 1) a)

next : (i d : ℕ) → nat_lt i d ≡ true → nat_lt i (d + 1) ≡ true
next i d h = grind (arith, nat_tests, h)

here : (d : ℕ) → nat_lt d (d + 1) ≡ true
here d = grind (arith, nat_tests)

leaf-tight : (b : Bool) (d i : ℕ) → is_tight (d + 1) (cond b (bound d) (free i)) ≡ true
leaf-tight true d i = here d
leaf-tight false d i = refl

mutual
  tight-closed : (k d : ℕ) (t : Tm) → is_tight d t ≡ true → is_tight (d + 1) (mapped (closed_free k) kept_bound d t) ≡ true
  tight-closed k d (free i) h = leaf-tight (i == k) d i
  tight-closed k d (bound i) h = next i d h
  tight-closed k d nought h = refl
  tight-closed k d (succ t) h = tight-closed k d t h
  tight-closed k d (app f ts) h = tight_all-closed k d ts h

  tight_all-closed : (k d : ℕ) (ts : Tms) → are_tight d ts ≡ true → are_tight (d + 1) (mapped_all (closed_free k) kept_bound d ts) ≡ true
  tight_all-closed k d none h = refl
  tight_all-closed k d (arg t ts) h = let p = and_parts _ _ h in and_from _ _ (tight-closed k d t p.0) (tight_all-closed k d ts p.1)

tight_of-closed : (k d : ℕ) (a : Fm) → is_tight_formula d a ≡ true → is_tight_formula (d + 1) (mapped_formula (closed_free k) kept_bound d a) ≡ true
tight_of-closed k d falsum h = refl
tight_of-closed k d (eq s t) h = let p = and_parts _ _ h in and_from _ _ (tight-closed k d s p.0) (tight-closed k d t p.1)
tight_of-closed k d (pred q ts) h = tight_all-closed k d ts h
tight_of-closed k d (and a b) h = let p = and_parts _ _ h in and_from _ _ (tight_of-closed k d a p.0) (tight_of-closed k d b p.1)
tight_of-closed k d (or a b) h = let p = and_parts _ _ h in and_from _ _ (tight_of-closed k d a p.0) (tight_of-closed k d b p.1)
tight_of-closed k d (imp a b) h = let p = and_parts _ _ h in and_from _ _ (tight_of-closed k d a p.0) (tight_of-closed k d b p.1)
tight_of-closed k d (all x a) h = tight_of-closed k (d + 1) a h
tight_of-closed k d (ex x a) h = tight_of-closed k (d + 1) a h

-- what is closed from the inside out
pub total_nodes : (n : ℕ) (bs : List Binder) (target : Fm) → nodes_of (closed_from n bs target) ≡ total bs target
total_nodes n [] target = refl
total_nodes n (Var x ∷ bs) target = ap (λ k. k + 1) (nodes_of-closed n 0 (closed_from (n + 1) bs target) ∙ total_nodes (n + 1) bs target)
total_nodes n (Hyp h a ∷ bs) target = ap (λ k. nodes_of (formula a) + k + 1) (total_nodes n bs target)

pub tight_from : (n : ℕ) (bs : List Binder) (target : Fm) → AreTight bs target → is_tight_formula 0 (closed_from n bs target) ≡ true
tight_from n [] target h = h
tight_from n (Var x ∷ bs) target h = tight_of-closed n 0 (closed_from (n + 1) bs target) (tight_from (n + 1) bs target h)
tight_from n (Hyp y a ∷ bs) target h = and_from _ _ h.0 (tight_from n bs target h.1)

pub ruleset closing = (total_nodes, tight_from)

rest_fits : (bs : List Binder) → length (drop 1 bs) ≤ length bs - 1
rest_fits [] = omega arith
rest_fits (b ∷ bs) = omega arith

rest_is : (bs : List Binder) → take (length bs - 1) (drop 1 bs) ≡ drop 1 bs
rest_is bs = take_all (length bs - 1) (drop 1 bs) (rest_fits bs)

nodes-rest : (n : ℕ) (bs : List Binder) (target f : Fm) → f ≡ closed_from n (drop 1 bs) target → total bs target < 2 ^ 32 → nodes_of f < 2 ^ 32
nodes-rest n [] target f e lt = omega (arith, ap nodes_of e, lt)
nodes-rest n (Var x ∷ bs) target f e lt = omega (arith, ap nodes_of e, total_nodes n bs target, lt)
nodes-rest n (Hyp y a ∷ bs) target f e lt = omega (arith, ap nodes_of e, total_nodes n bs target, lt)

tight-rest : (n : ℕ) (bs : List Binder) (target f : Fm) → f ≡ closed_from n (drop 1 bs) target → AreTight bs target → is_tight_formula 0 f ≡ true
tight-rest n [] target f e h = ap (is_tight_formula 0) e ∙ h
tight-rest n (Var x ∷ bs) target f e h = ap (is_tight_formula 0) e ∙ tight_from n bs target h
tight-rest n (Hyp y a ∷ bs) target f e h = ap (is_tight_formula 0) e ∙ tight_from n bs target h.1

pub nodes-below : (n : ℕ) (bs : List Binder) (target f : Fm) → f ≡ closed_from n (take (length bs - 1) (drop 1 bs)) target → total bs target < 2 ^ 32 → nodes_of f < 2 ^ 32
nodes-below n bs target f e lt = nodes-rest n bs target f (e ∙ ap (λ l. closed_from n l target) (rest_is bs)) lt

pub tight-below : (n : ℕ) (bs : List Binder) (target f : Fm) → f ≡ closed_from n (take (length bs - 1) (drop 1 bs)) target → AreTight bs target → is_tight_formula 0 f ≡ true
tight-below n bs target f e h = tight-rest n bs target f (e ∙ ap (λ l. closed_from n l target) (rest_is bs)) h
