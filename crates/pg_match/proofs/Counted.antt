-- How large a pattern with its holes filled is, read off the pattern.
use Rattle.std.proofs.Common.{◌≡◌, ℕ, suc, ◌+◌, ◌-◌, ◌<◌, ◌≤◌, ◌^◌, List, [], ◌∷◌, length, take, get_or, Bool, true, false, refl, arith, ap, sym, ◌∙◌}
use Rattle.std.specs.Prelude.{min, max, slice_get, unwrap_or, nat_lt, if◌then◌else◌}
use Rattle.std.proofs.lemmas.Bool.{ltb-true, ltb-false}
use Rattle.std.proofs.lemmas.List.Elements.{recursion_from_All}
use Rattle.pg_logic.specs.Tree.{Tm, free, bound, nought, succ, app, Tms, none, arg, Fm, falsum, eq, pred, and, or, imp, all, ex, nodes, nodes_all, nodes_of, height, height_all, height_of, is_tight}
use Rattle.pg_terms.specs.declared.term.Term.{Term}
use Rattle.pg_terms.specs.View.{term, args}
use Rattle.pg_terms.proofs.Lists.{push, args-more}
use Rattle.pg_moves.specs.Instances as tight
use Rattle.pg_moves.specs.Instances.{filled, filled_formula}
use Rattle.pg_match.specs.Sizes.{hole, filled_nodes, all_nodes, formula_nodes, filled_height, all_height, formula_height}
use Rattle.pg_match.proofs.Filling.{AreTight, within, all_within, formula_within, value, value-first, value-later, within-succ, within-app, within-arg, within-none, within-free, within-nought, within-below, within-falsum, within-eq, within-pred, within-and, within-or, within-imp, within-all, within-ex, within-outer, fills, at-root, at_root-formula}
use Rattle.pg_match.proofs.Joining.{by_place}

-- the term for a hole stands at its place in the list
value-there : (ts : List Tm) (i : ℕ) → i < length ts → value ts i ≡ unwrap_or (slice_get ts (length ts - 1 - i)) nought
value-there [] i lt = absurd (omega arith)
value-there (t ∷ ts) i lt =
    by_place (value (t ∷ ts) i ≡ unwrap_or (slice_get (t ∷ ts) (suc (length ts) - 1 - i)) nought) i (length ts) lt
    (λ e. let k : suc (length ts) - 1 - i ≡ 0 = omega (arith, e) in value-first t ts i e ∙ sym (ap (λ n. unwrap_or (slice_get (t ∷ ts) n) nought) k))
    (λ l. let k : suc (length ts) - 1 - i ≡ suc (length ts - 1 - i) = omega (arith, l) in
    value-later t ts i l ∙ value-there ts i l ∙ sym (ap (λ n. unwrap_or (slice_get (t ∷ ts) n) nought) k))

module _ (ts : List Tm) (c : AreTight ts) where
  -- what stands for a bound variable
  hole-is : (d j : ℕ) → within d ts (bound j) ≡ hole d ts j
  hole-is d j = here (nat_lt j d) refl
    where
      there : (b : Bool) → nat_lt (j - d) (length ts) ≡ b → d ≤ j → within d ts (bound j) ≡ (if b then unwrap_or (slice_get ts (length ts - 1 - (j - d))) nought else bound (j - length ts))
      there true e le =
          let k : j ≡ d + (j - d) = omega (arith, le) in
          let lt = ltb-true (j - d) (length ts) e in
          ap (λ j. within d ts (bound j)) k ∙ fills d ts (j - d) c lt ∙ value-there ts (j - d) lt
      there false e le =
          let past = ltb-false (j - d) (length ts) e in
          let k : j ≡ d + length ts + (j - d - length ts) = omega (arith, le, past) in
          let i : d + (j - d - length ts) ≡ j - length ts = omega (arith, le, past) in
          ap (λ j. within d ts (bound j)) k ∙ within-outer d ts (j - d - length ts) ∙ ap bound i

      here : (b : Bool) → nat_lt j d ≡ b → within d ts (bound j) ≡ (if b then bound j else (if nat_lt (j - d) (length ts) then unwrap_or (slice_get ts (length ts - 1 - (j - d))) nought else bound (j - length ts)))
      here true e = within-below d ts j (ltb-true j d e)
      here false e = let le = ltb-false j d e in there (nat_lt (j - d) (length ts)) refl (omega (arith, le))

  mutual
    nodes-filled : (d : ℕ) (t : Tm) → nodes (within d ts t) ≡ filled_nodes d ts t
    nodes-filled d (bound j) = ap nodes (hole-is d j)
    nodes-filled d (succ t) = ap nodes (within-succ d ts t) ∙ ap (λ n. n + 1) (nodes-filled d t)
    nodes-filled d (app f us) = ap nodes (within-app d ts f us) ∙ ap (λ n. n + 1) (nodes-all d us)
    nodes-filled d (free i) = ap nodes (within-free d ts i)
    nodes-filled d nought = ap nodes (within-nought d ts)

    nodes-all : (d : ℕ) (us : Tms) → nodes_all (all_within d ts us) ≡ all_nodes d ts us
    nodes-all d none = ap nodes_all (within-none d ts)
    nodes-all d (arg t us) =
        ap nodes_all (within-arg d ts t us) ∙ ap (λ n. n + nodes_all (all_within d ts us)) (nodes-filled d t) ∙ ap (λ n. filled_nodes d ts t + n) (nodes-all d us)

  both-nodes : (a b : Fm) (n m : ℕ) → nodes_of a ≡ n → nodes_of b ≡ m → nodes_of a + nodes_of b + 1 ≡ n + m + 1
  both-nodes a b n m e f = ap (λ k. k + nodes_of b + 1) e ∙ ap (λ k. n + k + 1) f

  nodes-formula : (d : ℕ) (a : Fm) → nodes_of (formula_within d ts a) ≡ formula_nodes d ts a
  nodes-formula d falsum = ap nodes_of (within-falsum d ts)
  nodes-formula d (eq s t) =
      ap nodes_of (within-eq d ts s t) ∙ ap (λ n. n + nodes (within d ts t) + 1) (nodes-filled d s) ∙ ap (λ n. filled_nodes d ts s + n + 1) (nodes-filled d t)
  nodes-formula d (pred p us) = ap nodes_of (within-pred d ts p us) ∙ ap (λ n. n + 1) (nodes-all d us)
  nodes-formula d (and a b) = ap nodes_of (within-and d ts a b) ∙ both-nodes (formula_within d ts a) (formula_within d ts b) _ _ (nodes-formula d a) (nodes-formula d b)
  nodes-formula d (or a b) = ap nodes_of (within-or d ts a b) ∙ both-nodes (formula_within d ts a) (formula_within d ts b) _ _ (nodes-formula d a) (nodes-formula d b)
  nodes-formula d (imp a b) = ap nodes_of (within-imp d ts a b) ∙ both-nodes (formula_within d ts a) (formula_within d ts b) _ _ (nodes-formula d a) (nodes-formula d b)
  nodes-formula d (all x a) = ap nodes_of (within-all d ts x a) ∙ ap (λ n. n + 1) (nodes-formula (d + 1) a)
  nodes-formula d (ex x a) = ap nodes_of (within-ex d ts x a) ∙ ap (λ n. n + 1) (nodes-formula (d + 1) a)

  mutual
    height-filled : (d : ℕ) (t : Tm) → height (within d ts t) ≡ filled_height d ts t
    height-filled d (bound j) = ap height (hole-is d j)
    height-filled d (succ t) = ap height (within-succ d ts t) ∙ ap (λ n. n + 1) (height-filled d t)
    height-filled d (app f us) = ap height (within-app d ts f us) ∙ ap (λ n. n + 1) (height-all d us)
    height-filled d (free i) = ap height (within-free d ts i)
    height-filled d nought = ap height (within-nought d ts)

    height-all : (d : ℕ) (us : Tms) → height_all (all_within d ts us) ≡ all_height d ts us
    height-all d none = ap height_all (within-none d ts)
    height-all d (arg t us) =
        ap height_all (within-arg d ts t us) ∙ ap (λ n. max n (height_all (all_within d ts us))) (height-filled d t) ∙ ap (max (filled_height d ts t)) (height-all d us)

  both-height : (a b : Fm) (n m : ℕ) → height_of a ≡ n → height_of b ≡ m → max (height_of a) (height_of b) + 1 ≡ max n m + 1
  both-height a b n m e f = ap (λ k. max k (height_of b) + 1) e ∙ ap (λ k. max n k + 1) f

  height-formula : (d : ℕ) (a : Fm) → height_of (formula_within d ts a) ≡ formula_height d ts a
  height-formula d falsum = ap height_of (within-falsum d ts)
  height-formula d (eq s t) =
      ap height_of (within-eq d ts s t) ∙ ap (λ n. max n (height (within d ts t)) + 1) (height-filled d s) ∙ ap (λ n. max (filled_height d ts s) n + 1) (height-filled d t)
  height-formula d (pred p us) = ap height_of (within-pred d ts p us) ∙ ap (λ n. n + 1) (height-all d us)
  height-formula d (and a b) = ap height_of (within-and d ts a b) ∙ both-height (formula_within d ts a) (formula_within d ts b) _ _ (height-formula d a) (height-formula d b)
  height-formula d (or a b) = ap height_of (within-or d ts a b) ∙ both-height (formula_within d ts a) (formula_within d ts b) _ _ (height-formula d a) (height-formula d b)
  height-formula d (imp a b) = ap height_of (within-imp d ts a b) ∙ both-height (formula_within d ts a) (formula_within d ts b) _ _ (height-formula d a) (height-formula d b)
  height-formula d (all x a) = ap height_of (within-all d ts x a) ∙ ap (λ n. n + 1) (height-formula (d + 1) a)
  height-formula d (ex x a) = ap height_of (within-ex d ts x a) ∙ ap (λ n. n + 1) (height-formula (d + 1) a)

-- ---- at the root

by-recursion : (ts : List Tm) → tight.AreTight ts → AreTight ts
by-recursion ts c = recursion_from_All (λ t. is_tight 0 t ≡ true) ts c

pub term-nodes : (ts : List Tm) (t : Tm) → tight.AreTight ts → filled_nodes 0 ts t ≡ nodes (filled ts t)
term-nodes ts t c = sym (nodes-filled ts (by-recursion ts c) 0 t) ∙ ap nodes (at-root ts t)

pub term-height : (ts : List Tm) (t : Tm) → tight.AreTight ts → filled_height 0 ts t ≡ height (filled ts t)
term-height ts t c = sym (height-filled ts (by-recursion ts c) 0 t) ∙ ap height (at-root ts t)

pub formula-nodes : (ts : List Tm) (a : Fm) → tight.AreTight ts → formula_nodes 0 ts a ≡ nodes_of (filled_formula ts a)
formula-nodes ts a c = sym (nodes-formula ts (by-recursion ts c) 0 a) ∙ ap nodes_of (at_root-formula ts a)

pub formula-height : (ts : List Tm) (a : Fm) → tight.AreTight ts → formula_height 0 ts a ≡ height_of (filled_formula ts a)
formula-height ts a c = sym (height-formula ts (by-recursion ts c) 0 a) ∙ ap height_of (at_root-formula ts a)

-- ---- turns of the loops

nodes-push : (d : ℕ) (us : List Tm) (ts : Tms) (t : Tm) → all_nodes d us (push ts t) ≡ all_nodes d us ts + filled_nodes d us t
nodes-push d us none t = omega arith
nodes-push d us (arg s ts) t = ap (λ n. filled_nodes d us s + n) (nodes-push d us ts t) ∙ omega arith

height-push : (d : ℕ) (us : List Tm) (ts : Tms) (t : Tm) → all_height d us (push ts t) ≡ max (all_height d us ts) (filled_height d us t)
height-push d us none t = omega arith
height-push d us (arg s ts) t = ap (max (filled_height d us s)) (height-push d us ts t) ∙ omega arith

pub nodes-turn : (d : ℕ) (us : List Tm) (ts : List Term) (i : ℕ) (t : Term) (sum here : ℕ) → i < length ts → t ≡ get_or ts i t →
    sum ≡ min (all_nodes d us (args (take i ts))) (2 ^ 64 - 1) → here ≡ min (filled_nodes d us (term t)) (2 ^ 64 - 1) → min (sum + here) (2 ^ 64 - 1) ≡ min (all_nodes d us (args (take (i + 1) ts))) (2 ^ 64 - 1)
nodes-turn d us ts i t sum here lt is before now =
    let e = ap (all_nodes d us) (args-more ts i t lt is) ∙ nodes-push d us (args (take i ts)) (term t) in
    omega (arith, e, before, now)

pub height-turn : (d : ℕ) (us : List Tm) (ts : List Term) (i : ℕ) (t : Term) (most here : ℕ) → i < length ts → t ≡ get_or ts i t →
    most ≡ min (all_height d us (args (take i ts))) (2 ^ 32 - 1) → here ≡ min (filled_height d us (term t)) (2 ^ 32 - 1) → max most here ≡ min (all_height d us (args (take (i + 1) ts))) (2 ^ 32 - 1)
height-turn d us ts i t most here lt is before now =
    let e = ap (all_height d us) (args-more ts i t lt is) ∙ height-push d us (args (take i ts)) (term t) in
    omega (arith, e, before, now)
