-- How deep binders nest, and what stands in the places of a term.
use Rattle.std.proofs.Common.{◌≡◌, ◌≤◌, ◌<◌, ◌^◌, ℕ, ◌+◌, List, [], ◌∷◌, ◌++◌, length, take, get_or, true, refl, arith, ap, sym, ◌∙◌}
use Rattle.std.specs.Prelude.{max, if◌then◌else◌}
use Rattle.pg_logic.specs.Tree.{Tm, free, bound, nought, succ, app, Tms, none, arg, Fm, falsum, eq, pred, and, or, imp, all, ex, same, nodes_of}
use Rattle.pg_moves.specs.Replaced.{replaced_formula, abstracted, abstracted_all}
use Rattle.pg_terms.specs.declared.term.Term.{Term}
use Rattle.pg_terms.specs.View.{term, args}
use Rattle.pg_terms.proofs.Lists.{push, args-push, args-more}
use Rattle.pg_rewrites.specs.Depth.{binder_depth}

depth-replaced : (old new : Tm) (a : Fm) → binder_depth (replaced_formula old new a) ≡ binder_depth a
depth-replaced old new falsum = refl
depth-replaced old new (eq t u) = refl
depth-replaced old new (pred p ts) = refl
depth-replaced old new (and a b) = ap (λ n. max n (binder_depth (replaced_formula old new b))) (depth-replaced old new a) ∙ ap (max (binder_depth a)) (depth-replaced old new b)
depth-replaced old new (or a b) = ap (λ n. max n (binder_depth (replaced_formula old new b))) (depth-replaced old new a) ∙ ap (max (binder_depth a)) (depth-replaced old new b)
depth-replaced old new (imp a b) = ap (λ n. max n (binder_depth (replaced_formula old new b))) (depth-replaced old new a) ∙ ap (max (binder_depth a)) (depth-replaced old new b)
depth-replaced old new (all x a) = ap (λ n. n + 1) (depth-replaced old new a)
depth-replaced old new (ex x a) = ap (λ n. n + 1) (depth-replaced old new a)

depth-nodes : (a : Fm) → binder_depth a ≤ nodes_of a
depth-nodes falsum = omega arith
depth-nodes (eq t u) = omega arith
depth-nodes (pred p ts) = omega arith
depth-nodes (and a b) = omega (arith, depth-nodes a, depth-nodes b)
depth-nodes (or a b) = omega (arith, depth-nodes a, depth-nodes b)
depth-nodes (imp a b) = omega (arith, depth-nodes a, depth-nodes b)
depth-nodes (all x a) = omega (arith, depth-nodes a)
depth-nodes (ex x a) = omega (arith, depth-nodes a)

-- binders nest no deeper than a rewritten formula has nodes
pub depth-small : (old new : Tm) (a : Fm) → nodes_of (replaced_formula old new a) ≤ 4096 → binder_depth a < 2 ^ 32
depth-small old new a few = omega (arith, few, depth-replaced old new a, depth-nodes (replaced_formula old new a))

-- in the place of the old term stands the bound variable
pub abstracted-same : (old : Tm) (d : ℕ) (t : Tm) → same t old ≡ true → abstracted old d t ≡ bound d
abstracted-same old d (free i) e = ap (λ b. if b then bound d else free i) e
abstracted-same old d (bound i) e = ap (λ b. if b then bound d else bound i) e
abstracted-same old d nought e = ap (λ b. if b then bound d else nought) e
abstracted-same old d (succ t) e = ap (λ b. if b then bound d else succ (abstracted old d t)) e
abstracted-same old d (app f ts) e = ap (λ b. if b then bound d else app f (abstracted_all old d ts)) e

pub ruleset abstracts = (abstracted-same)

all-push : (old : Tm) (d : ℕ) (ts : Tms) (t : Tm) → abstracted_all old d (push ts t) ≡ push (abstracted_all old d ts) (abstracted old d t)
all-push old d none t = refl
all-push old d (arg s ts) t = ap (arg (abstracted old d s)) (all-push old d ts t)

-- a turn of the loop
pub all-turn : (old : Tm) (d : ℕ) (ts : List Term) (i : ℕ) (t : Term) (rs new : List Term) (r : Term) → i < length ts → t ≡ get_or ts i t → new ≡ rs ++ r ∷ [] →
    args rs ≡ abstracted_all old d (args (take i ts)) → term r ≡ abstracted old d (term t) → args new ≡ abstracted_all old d (args (take (i + 1) ts))
all-turn old d ts i t rs new r lt is made before now =
    ap args made ∙ args-push rs r ∙ ap (λ us. push us (term r)) before ∙ ap (push (abstracted_all old d (args (take i ts)))) now
    ∙ sym (all-push old d (args (take i ts)) (term t)) ∙ ap (abstracted_all old d) (sym (args-more ts i t lt is))
