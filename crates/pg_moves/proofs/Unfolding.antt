-- What is unfolded until its head is no predicate.
use Rattle.std.proofs.Common.{◌≡◌, ℕ, zero, suc, ◌+◌, ◌<◌, ◌≤◌, List, [], ◌∷◌, length, Bool, true, false, ◌&&◌, Option, Some, None, refl, arith, subst}
use Rattle.std.specs.Prelude.{slice_get, take}
use Rattle.std.proofs.lemmas.Bool.{and_parts}
use Rattle.pg_logic.specs.Tree.{Tms, list_of, Fm, falsum, eq, pred, and, or, imp, all, ex, substituted_formula}
use Rattle.pg_logic.specs.Signature.{Predicate, Signature, IsDeclared, before_predicate, fits, holds_of, count}
use Rattle.pg_logic.specs.Declarations.{signature_of}
use Rattle.pg_logic.specs.Kernel.{unfolded, body_at}
use Rattle.pg_moves.specs.Lookup.{Lookup}
use Rattle.pg_moves.specs.Closing.{form_at, unfolded_within, head_unfolded}
use Rattle.pg_moves.specs.Laws.{UnfoldedLaw}

-- a predicate at the head is one of the first so many
abbrev HeadBelow : ℕ → Fm → Type 0
HeadBelow k (pred p ts) = p < k
HeadBelow k _ = Unit {0}

there : {X : Type 0} (xs : List X) (k : ℕ) (x : X) → slice_get xs k ≡ Some x → k < length xs
there [] k x e = absurd (cc)
there (y ∷ ys) zero x e = omega arith
there (y ∷ ys) (suc k) x e = let lt = there ys k x e in omega (arith, lt)

taken : {X : Type 0} (xs : List X) (n k : ℕ) (x : X) → slice_get (take n xs) k ≡ Some x → k < n
taken xs zero k x e = absurd (cc)
taken [] (suc n) k x e = absurd (cc)
taken (y ∷ ys) (suc n) zero x e = omega arith
taken (y ∷ ys) (suc n) (suc k) x e = let lt = taken ys n k x e in omega (arith, lt)

declared : (o : Option Predicate) (n : ℕ) → holds_of o n ≡ true → (p : Predicate) × (o ≡ Some p)
declared None n e = absurd (cc)
declared (Some p) n e = (p, refl)

-- a formula that fits has a declared one
head-fits : (s : Signature) (n d : ℕ) (a : Fm) → fits s n d a ≡ true → HeadBelow (length s.predicates) a
head-fits s n d (pred p ts) f = let k = declared (slice_get s.predicates p) (count ts) (and_parts _ _ f).0 in there s.predicates p k.0 k.1
head-fits s n d falsum f = tt
head-fits s n d (eq t u) f = tt
head-fits s n d (and a b) f = tt
head-fits s n d (or a b) f = tt
head-fits s n d (imp a b) f = tt
head-fits s n d (all x a) f = tt
head-fits s n d (ex x a) f = tt

-- a body's is before the predicate
head-body : (s : Signature) (p : ℕ) (q : Predicate) (n : ℕ) (a : Fm) (ts : Tms) → fits (before_predicate s p q) n 0 a ≡ true → HeadBelow p (substituted_formula (list_of ts) a)
head-body s p q n (pred r us) ts f = let k = declared (slice_get (take p s.predicates) r) (count us) (and_parts _ _ f).0 in taken s.predicates p r k.0 k.1
head-body s p q n falsum ts f = tt
head-body s p q n (eq t u) ts f = tt
head-body s p q n (and a b) ts f = tt
head-body s p q n (or a b) ts f = tt
head-body s p q n (imp a b) ts f = tt
head-body s p q n (all x a) ts f = tt
head-body s p q n (ex x a) ts f = tt

below : (j k : ℕ) (a : Fm) → j ≤ k → HeadBelow j a → HeadBelow k a
below j k (pred p ts) le h = omega (arith, le, h)
below j k falsum le h = tt
below j k (eq t u) le h = tt
below j k (and a b) le h = tt
below j k (or a b) le h = tt
below j k (imp a b) le h = tt
below j k (all x a) le h = tt
below j k (ex x a) le h = tt

module _ (s : Signature) (d : IsDeclared s) where
  head-unfolded : (k : ℕ) (a b : Fm) → HeadBelow (suc k) a → unfolded s a ≡ Some b → HeadBelow k b
  head-unfolded k (pred p ts) b h e = go (slice_get s.predicates p) refl e
    where
      go : (o : Option Predicate) → slice_get s.predicates p ≡ o → body_at o ts ≡ Some b → HeadBelow k b
      go None is e = absurd (cc)
      go (Some q) is e =
          let q' : substituted_formula (list_of ts) q.body ≡ b = cc in
          subst (HeadBelow k) q' (below p k (substituted_formula (list_of ts) q.body) (omega (arith, h)) (head-body s p q q.arity q.body ts (d.predicates p q is)))
  head-unfolded k falsum b h e = absurd (cc)
  head-unfolded k (eq t u) b h e = absurd (cc)
  head-unfolded k (and x y) b h e = absurd (cc)
  head-unfolded k (or x y) b h e = absurd (cc)
  head-unfolded k (imp x y) b h e = absurd (cc)
  head-unfolded k (all x y) b h e = absurd (cc)
  head-unfolded k (ex x y) b h e = absurd (cc)

  no-head : (a : Fm) → HeadBelow 0 a → unfolded s a ≡ None
  no-head (pred p ts) h = absurd (omega (arith, h))
  no-head falsum h = refl
  no-head (eq t u) h = refl
  no-head (and x y) h = refl
  no-head (or x y) h = refl
  no-head (imp x y) h = refl
  no-head (all x y) h = refl
  no-head (ex x y) h = refl

  ends : (k : ℕ) (a : Fm) → HeadBelow k a → unfolded s (unfolded_within k s a) ≡ None
  ends zero a h = no-head a h
  ends (suc k) a h = go (λ b h. ends k b h) (unfolded s a) refl
    where
      go : ((b : Fm) → HeadBelow k b → unfolded s (unfolded_within k s b) ≡ None) → (o : Option Fm) → unfolded s a ≡ o
          → unfolded s (form_at a (unfolded_within k s) o) ≡ None
      go further None is = is
      go further (Some b) is = further b (head-unfolded k a b h is)

pub unfolded-law : UnfoldedLaw
unfolded-law l n a d f = ends (signature_of l.declared) d (length (signature_of l.declared).predicates) a (head-fits (signature_of l.declared) n 0 a f)
