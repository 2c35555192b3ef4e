-- Nothing is undeclared or loose in a tree that fits, so that only a taken name refuses its declaration.
use Rattle.std.proofs.Common.{◌≡◌, ◌+◌, ◌++◌, ℕ, Bool, true, List, [], refl, ap, ◌∙◌}
use Rattle.std.specs.Prelude.{nat_lt, slice_get}
use Rattle.std.proofs.lemmas.Bool.{and_parts}
use Rattle.pg_logic.specs.Tree.{Tm, free, bound, nought, succ, app, Tms, none, arg, Fm, falsum, eq, pred, and, or, imp, all, ex}
use Rattle.pg_logic.specs.Signature.{Function, Signature, takes, holds_of, count, fits_term, fits_terms, fits}
use Rattle.pg_logic.specs.Declarations.{unless_true, undeclared, undeclared_all, undeclared_in, loose, loose_all, loose_in}

both_empty : (xs ys : List ℕ) → xs ≡ [] → ys ≡ [] → xs ++ ys ≡ []
both_empty xs ys e f = ap (λ l. l ++ ys) e ∙ f

if_true : (b : Bool) (k : ℕ) → b ≡ true → unless_true b k ≡ []
if_true b k e = ap (λ b. unless_true b k) e

mutual
  pub none_undeclared : (fs : List Function) (n d : ℕ) (t : Tm) → fits_term fs n d t ≡ true → undeclared fs t ≡ []
  none_undeclared fs n d (free i) h = refl
  none_undeclared fs n d (bound i) h = refl
  none_undeclared fs n d nought h = refl
  none_undeclared fs n d (succ t) h = none_undeclared fs n d t h
  none_undeclared fs n d (app f ts) h =
      let p = and_parts _ _ h in both_empty _ _ (if_true (takes (slice_get fs f) (count ts)) f p.0) (all_declared fs n d ts p.1)

  all_declared : (fs : List Function) (n d : ℕ) (ts : Tms) → fits_terms fs n d ts ≡ true → undeclared_all fs ts ≡ []
  all_declared fs n d none h = refl
  all_declared fs n d (arg t ts) h = let p = and_parts _ _ h in both_empty _ _ (none_undeclared fs n d t p.0) (all_declared fs n d ts p.1)

mutual
  pub none_loose : (fs : List Function) (n d : ℕ) (t : Tm) → fits_term fs n d t ≡ true → loose n d t ≡ []
  none_loose fs n d (free i) h = if_true (nat_lt i n) i h
  none_loose fs n d (bound i) h = if_true (nat_lt i d) i h
  none_loose fs n d nought h = refl
  none_loose fs n d (succ t) h = none_loose fs n d t h
  none_loose fs n d (app f ts) h = all_held fs n d ts (and_parts _ _ h).1

  all_held : (fs : List Function) (n d : ℕ) (ts : Tms) → fits_terms fs n d ts ≡ true → loose_all n d ts ≡ []
  all_held fs n d none h = refl
  all_held fs n d (arg t ts) h = let p = and_parts _ _ h in both_empty _ _ (none_loose fs n d t p.0) (all_held fs n d ts p.1)

pub none_undeclared_in : (s : Signature) (n d : ℕ) (a : Fm) → fits s n d a ≡ true → undeclared_in s a ≡ []
none_undeclared_in s n d falsum h = refl
none_undeclared_in s n d (eq a b) h =
    let p = and_parts _ _ h in both_empty _ _ (none_undeclared s.functions n d a p.0) (none_undeclared s.functions n d b p.1)
none_undeclared_in s n d (pred q ts) h =
    let p = and_parts _ _ h in both_empty _ _ (if_true (holds_of (slice_get s.predicates q) (count ts)) q p.0) (all_declared s.functions n d ts p.1)
none_undeclared_in s n d (and a b) h = let p = and_parts _ _ h in both_empty _ _ (none_undeclared_in s n d a p.0) (none_undeclared_in s n d b p.1)
none_undeclared_in s n d (or a b) h = let p = and_parts _ _ h in both_empty _ _ (none_undeclared_in s n d a p.0) (none_undeclared_in s n d b p.1)
none_undeclared_in s n d (imp a b) h = let p = and_parts _ _ h in both_empty _ _ (none_undeclared_in s n d a p.0) (none_undeclared_in s n d b p.1)
none_undeclared_in s n d (all x a) h = none_undeclared_in s n (d + 1) a h
none_undeclared_in s n d (ex x a) h = none_undeclared_in s n (d + 1) a h

pub none_loose_in : (s : Signature) (n d : ℕ) (a : Fm) → fits s n d a ≡ true → loose_in n d a ≡ []
none_loose_in s n d falsum h = refl
none_loose_in s n d (eq a b) h =
    let p = and_parts _ _ h in both_empty _ _ (none_loose s.functions n d a p.0) (none_loose s.functions n d b p.1)
none_loose_in s n d (pred q ts) h = all_held s.functions n d ts (and_parts _ _ h).1
none_loose_in s n d (and a b) h = let p = and_parts _ _ h in both_empty _ _ (none_loose_in s n d a p.0) (none_loose_in s n d b p.1)
none_loose_in s n d (or a b) h = let p = and_parts _ _ h in both_empty _ _ (none_loose_in s n d a p.0) (none_loose_in s n d b p.1)
none_loose_in s n d (imp a b) h = let p = and_parts _ _ h in both_empty _ _ (none_loose_in s n d a p.0) (none_loose_in s n d b p.1)
none_loose_in s n d (all x a) h = none_loose_in s n (d + 1) a h
none_loose_in s n d (ex x a) h = none_loose_in s n (d + 1) a h
