-- What a variable takes along.
use Rattle.std.proofs.Common.{◌≡◌, get_or, ℕ, zero, suc, ◌+◌, ◌<◌, List, [], ◌∷◌, ◌++◌, length, map, Bool, true, false, ◌&&◌, refl, arith, ap, sym, ◌∙◌, subst, append_assoc}
use Rattle.std.specs.Prelude.{All, if◌then◌else◌}
use Rattle.pg_terms.specs.View.{formula}
use Rattle.pg_goal.specs.declared.goal.Hyp as rust
use Rattle.pg_goal.specs.View.{hyp_of}
use Rattle.pg_moves.specs.Proofs.{hyp_formula as moves_formula}
use Rattle.pg_reduction.specs.Limits.{hyp_formula}
use Rattle.std.proofs.lemmas.Bool.{and_parts, and_from}
use Rattle.pg_logic.specs.Tree.{Tm, free, bound, nought, succ, app, Tms, none, arg, Fm, falsum, eq, pred, and, or, imp, all, ex, is_tight, are_tight, is_tight_formula}
use Rattle.pg_logic.specs.Signature.{Signature, Function, fits, fits_term, fits_terms}
use Rattle.pg_moves.specs.Goals.{Hyp, Goal, hyps_without, without_var}
use Rattle.pg_moves.specs.Holding.{holds_var, carried_from, without_hyps, without_held}
use Rattle.pg_inducts.specs.Carrying.{dead, let_go, with_hyps, IsSmall, IsClosable}

-- ---- what fits has no loose bound variable

mutual
  tight-term : (fs : List Function) (n d : ℕ) (t : Tm) → fits_term fs n d t ≡ true → is_tight d t ≡ true
  tight-term fs n d (free i) h = refl
  tight-term fs n d (bound i) h = h
  tight-term fs n d nought h = refl
  tight-term fs n d (succ t) h = tight-term fs n d t h
  tight-term fs n d (app f ts) h = tight-terms fs n d ts (and_parts _ _ h).1

  tight-terms : (fs : List Function) (n d : ℕ) (ts : Tms) → fits_terms fs n d ts ≡ true → are_tight d ts ≡ true
  tight-terms fs n d none h = refl
  tight-terms fs n d (arg t ts) h = let p = and_parts _ _ h in and_from _ _ (tight-term fs n d t p.0) (tight-terms fs n d ts p.1)

pub fits-tight : (s : Signature) (n d : ℕ) (a : Fm) → fits s n d a ≡ true → is_tight_formula d a ≡ true
fits-tight s n d falsum h = refl
fits-tight s n d (eq t u) h = let p = and_parts _ _ h in and_from _ _ (tight-term s.functions n d t p.0) (tight-term s.functions n d u p.1)
fits-tight s n d (pred q ts) h = tight-terms s.functions n d ts (and_parts _ _ h).1
fits-tight s n d (and a b) h = let p = and_parts _ _ h in and_from _ _ (fits-tight s n d a p.0) (fits-tight s n d b p.1)
fits-tight s n d (or a b) h = let p = and_parts _ _ h in and_from _ _ (fits-tight s n d a p.0) (fits-tight s n d b p.1)
fits-tight s n d (imp a b) h = let p = and_parts _ _ h in and_from _ _ (fits-tight s n d a p.0) (fits-tight s n d b p.1)
fits-tight s n d (all x a) h = fits-tight s n (d + 1) a h
fits-tight s n d (ex x a) h = fits-tight s n (d + 1) a h

-- ---- the hypotheses that a variable takes along die

dies-at : (xs : List Hyp) (h : Hyp) (hs : List Hyp) → hyps_without (length xs) (xs ++ h ∷ hs) ≡ xs ++ dead h ∷ hs
dies-at [] h hs = refl
dies-at (x ∷ xs) h hs = ap (λ l. x ∷ l) (dies-at xs h hs)

length-push : (xs : List Hyp) (x : Hyp) → length (xs ++ x ∷ []) ≡ length xs + 1
length-push [] x = refl
length-push (y ∷ xs) x = omega (arith, length-push xs x)

-- with those before
abbrev Dies : ℕ → Goal → List Hyp → List Hyp → Type 0
Dies k g xs hs = without_hyps (carried_from k (length xs) hs) (with_hyps (xs ++ hs) g) ≡ with_hyps (xs ++ map (let_go k) hs) g

one-more : (k : ℕ) (g : Goal) (xs hs : List Hyp) (x : Hyp) → Dies k g (xs ++ x ∷ []) hs →
    without_hyps (carried_from k (length xs + 1) hs) (with_hyps (xs ++ x ∷ hs) g) ≡ with_hyps (xs ++ x ∷ map (let_go k) hs) g
one-more k g xs hs x ih =
    ap (λ i. without_hyps (carried_from k i hs) (with_hyps (xs ++ x ∷ hs) g)) (sym (length-push xs x))
    ∙ ap (λ l. without_hyps (carried_from k (length (xs ++ x ∷ [])) hs) (with_hyps l g)) (sym (append_assoc xs (x ∷ []) hs))
    ∙ ih ∙ ap (λ l. with_hyps l g) (append_assoc xs (x ∷ []) (map (let_go k) hs))

by-test : (k : ℕ) (g : Goal) (xs hs : List Hyp) (h : Hyp) (b : Bool) → ((x : Hyp) → Dies k g (xs ++ x ∷ []) hs) →
    without_hyps (if b then record { number = length xs; hyp = h } ∷ carried_from k (length xs + 1) hs else carried_from k (length xs + 1) hs) (with_hyps (xs ++ h ∷ hs) g)
    ≡ with_hyps (xs ++ (if b then dead h else h) ∷ map (let_go k) hs) g
by-test k g xs hs h true ih = ap (λ l. without_hyps (carried_from k (length xs + 1) hs) (with_hyps l g)) (dies-at xs h hs) ∙ one-more k g xs hs (dead h) (ih (dead h))
by-test k g xs hs h false ih = one-more k g xs hs h (ih h)

held-die : (k : ℕ) (g : Goal) (xs hs : List Hyp) → Dies k g xs hs
held-die k g xs [] = refl
held-die k g xs (h ∷ hs) = by-test k g xs hs h (h.live && holds_var k h.formula) (λ x. held-die k g (xs ++ x ∷ []) hs)

-- all of them
pub all-held-die : (k : ℕ) (g : Goal) → without_hyps (carried_from k 0 g.hyps) g ≡ with_hyps (map (let_go k) g.hyps) g
all-held-die k g = held-die k g [] g.hyps

-- ---- from the last hypothesis to the first

-- the hypotheses from number i on that a variable takes along, where hypothesis i is h
pub carried-here : (k i : ℕ) (h : Hyp) (hs : List Hyp) → h.live && holds_var k h.formula ≡ true → carried_from k i (h ∷ hs) ≡ record { number = i; hyp = h } ∷ carried_from k (i + 1) hs
carried-here k i h hs e = ap (λ b. if b then record { number = i; hyp = h } ∷ carried_from k (i + 1) hs else carried_from k (i + 1) hs) e

pub carried-on : (k i : ℕ) (h : Hyp) (hs : List Hyp) → h.live && holds_var k h.formula ≡ false → carried_from k i (h ∷ hs) ≡ carried_from k (i + 1) hs
carried-on k i h hs e = ap (λ b. if b then record { number = i; hyp = h } ∷ carried_from k (i + 1) hs else carried_from k (i + 1) hs) e

-- ---- the goal without them

pub held-goal : (g n : Goal) (k : ℕ) (hs : List Hyp) → n ≡ without_var k g → hs ≡ map (let_go k) g.hyps → with_hyps hs n ≡ without_held k g
held-goal g n k hs en eh = ap (with_hyps hs) en ∙ ap (λ hs. with_hyps hs (without_var k g)) eh ∙ sym (all-held-die k (without_var k g))

-- ---- what fits and is small can be closed

pub hyp-formulas : (hs : List rust.Hyp) → map moves_formula (map hyp_of hs) ≡ map hyp_formula hs
hyp-formulas [] = refl
hyp-formulas (h ∷ hs) = ap (λ l. formula h.formula ∷ l) (hyp-formulas hs)

pub closable : (s : Signature) (n : ℕ) (a : Fm) → fits s n 0 a ≡ true → IsSmall a → IsClosable a
closable s n a f small = record { small = small; tight = fits-tight s n 0 a f }

pub all-closable : (s : Signature) (n : ℕ) (hs : List rust.Hyp) → All (λ a. fits s n 0 a ≡ true) (map moves_formula (map hyp_of hs)) → All IsSmall (map hyp_formula hs) → All IsClosable (map hyp_formula hs)
all-closable s n hs f small = λ k d lt. closable s n _ (subst (All (λ a. fits s n 0 a ≡ true)) (hyp-formulas hs) f k d lt) (small k d lt)

-- what holds of each formula holds of that of hypothesis i
pub formula-at : (P : Fm → Type 0) (hs : List rust.Hyp) (i : ℕ) (h : rust.Hyp) → All P (map hyp_formula hs) → i < length hs → h ≡ get_or hs i h → P (formula h.formula)
formula-at P [] i h each lt e = absurd (omega arith)
formula-at P (x ∷ hs) zero h each lt e = subst (λ (h : rust.Hyp). P (formula h.formula)) (sym e) (each 0 (formula h.formula) (omega arith))
formula-at P (x ∷ hs) (suc i) h each lt e = formula-at P hs i h (λ k d l. each (suc k) d (omega arith)) (omega arith) e
